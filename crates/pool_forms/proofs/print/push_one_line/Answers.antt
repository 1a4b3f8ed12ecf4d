use Rattle.std.proofs.Common.{rules, ◌≡◌, ℕ, List, ◌++◌, Some, None, OnOk, codes, string_bytes, sym, ap, ◌∙◌, subst, append_assoc, arith}
use Rattle.std.proofs.lemmas.Str.Pattern.{split_parts}
use Rattle.pool_forms.specs.Output.{one_line}
use Rattle.pool_forms.proofs.LineFeeds.{one_line_already, after_feed, on_ok}
use Rattle.pool_forms.proofs.print.push_one_line.Goals as goal

pub returns-in_default : goal.returns-in_default
returns-in_default c =
    let rest : List ℕ = c.parts.rest.now in
    let none = split_parts 10 rest None c.in_default.ensures.cases (omega arith) in
    let same : string_bytes c.parts.out ++ rest ≡ string_bytes c.args.out.now ++ one_line c.args.text.now = ap (λ r. string_bytes c.parts.out ++ r) (sym (one_line_already rest none)) ∙ c.parts.invariant.same in
    let Ends : List ℕ → Type 0 = λ bytes. OnOk c.push_str.result (string_bytes c.push_str.new.self ≡ bytes) in
    subst Ends same (on_ok c.push_str.result (string_bytes c.push_str.new.self) (string_bytes c.parts.out ++ rest) (string_bytes c.parts.out) c.push_str.ensures.bytes)

pub parts-preserved : goal.parts-preserved
parts-preserved c =
    let rest : List ℕ = c.parts.rest.now in
    let line : List ℕ = c.in-Some.line.now in
    let after : List ℕ = c.in-Some.after.now in
    let before : List ℕ = string_bytes c.parts.out in
    let parts = split_parts 10 rest (Some (c.in-Some.line, c.in-Some.after)) c.in-Some.ensures.cases (omega arith) in
    let is : one_line rest ≡ line ++ (codes "\\n" ++ one_line after) = ap one_line parts.0 ∙ after_feed line after parts.1 in
    let pushed : string_bytes c.push_str-in-parts-2.new.self ≡ (before ++ line) ++ codes "\\n" = c.in_ok-push_str-2.ensures.bytes ∙ ap (λ b. b ++ codes "\\n") c.in_ok-push_str.ensures.bytes in
    record {
      text = search rules;
      same =
          ap (λ b. b ++ one_line after) pushed
          ∙ append_assoc (before ++ line) (codes "\\n") (one_line after)
          ∙ append_assoc before line (codes "\\n" ++ one_line after)
          ∙ ap (λ r. before ++ r) (sym is)
          ∙ c.parts.invariant.same;
    }
