use Rattle.std.proofs.Common.{◌≡◌, ◌-◌, ◌≤◌, ◌++◌, length, take}
use Rattle.std.specs.Option.{option_map}
use Rattle.pool_forms.proofs.transfers.write_all.Given as goal

abbrev pub invariant-loop-done : goal.invariant-loop-done
invariant-loop-done g l = record {
  within : l.done ≤ length l.bytes;
  taken : (g.K.Sink.told l.sink).taken ≡ option_map (λ bytes. bytes ++ take l.done l.bytes) (g.K.Sink.told l.fn.sink).taken;
  faults : (g.K.Sink.told l.sink).faults ≡ (g.K.Sink.told l.fn.sink).faults;
}

abbrev pub decreases-loop-done : goal.decreases-loop-done
decreases-loop-done g l = length l.bytes - l.done
