use Rattle.std.proofs.Common.{◌≡◌, map}
use Rattle.serde_json.specs.View.{members_view}
use Rattle.pool_forms.specs.Fields.{all_among}
use Rattle.pool_forms.proofs.fields.all_among.Given as goal

abbrev pub invariant-loop-name : goal.invariant-loop-name
invariant-loop-name l = all_among (map (λ n. n.now) l.names) (members_view l.members.entries) ≡ all_among (map (λ n. n.now) l.names) (members_view l.name-iterator)
