use Rattle.std.proofs.Common.{◌≡◌, true, nat_lt, length, sym, ◌∙◌, arith}
use Rattle.std.proofs.lemmas.Bool.Decides.{nat_tests}
use Rattle.pool_cli.proofs.Numerals.{number_is_read}
use Rattle.pool_cli.proofs.words.number_in.Goals as goal

pub returns : goal.returns
returns c =
    let some : nat_lt 0 (length c.args.text.now) ≡ true = grind (arith, nat_tests) in
    c.ok.ensures.value ∙ number_is_read c.args.text.now c.parse.result c.parse.ensures.value.0 (sym c.all_digits.ensures ∙ c.if-not-all_digits.false) some
