use Rattle.std.proofs.Common.{◌≡◌, drop}
use Rattle.serde_json.specs.View.{items_view}
use Rattle.pool_forms.specs.Fields.{each_item}
use Rattle.pool_forms.proofs.Items.{onto}
use Rattle.pool_forms.proofs.from_json.each_item.Given as goal

abbrev pub invariant-loop-value : goal.invariant-loop-value
invariant-loop-value g l = each_item g.T.FromJson.form (items_view l.items) ≡ onto l.list (each_item g.T.FromJson.form (items_view (drop l.value-index l.items)))
