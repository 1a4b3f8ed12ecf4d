use Rattle.std.proofs.Common.{◌≡◌, ℕ, List, ◌++◌, OnOk, codes, option_map, string_bytes, ap, ◌∙◌, subst, append_assoc}
use Rattle.pool_types.specs.UnsupportedTexts.{whole_text}
use Rattle.pool_forms.specs.Output.{one_line}
use Rattle.pool_forms.proofs.print.push_unsupported.Goals as goal

pub returns : goal.returns
returns c =
    let text : List ℕ = one_line (whole_text c.args.rule (option_map (λ i. i.now) c.args.info)) in
    let Ends : List ℕ → Type 0 = λ bytes. OnOk c.push_rule.result (string_bytes c.push_rule.new.out ≡ bytes) in
    subst Ends (ap (λ bytes. bytes ++ text) c.in_ok-push_str.ensures.bytes ∙ append_assoc (string_bytes c.args.out.now) (codes "Unsupported: ") text) c.push_rule.ensures
