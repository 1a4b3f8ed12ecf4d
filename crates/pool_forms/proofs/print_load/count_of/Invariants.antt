use Rattle.std.proofs.Common.{◌≡◌, take, sum_by}
use Rattle.std.specs.List.{count_by}
use Rattle.pool_forms.specs.LoadOutput.{is_of}
use Rattle.pool_forms.proofs.print_load.count_of.Given as goal

-- the replies of the parties so far
abbrev pub invariant-loop-replies : goal.invariant-loop-replies
invariant-loop-replies l = l.count ≡ sum_by (count_by (is_of l.kind)) (take l.replies-index l.parties)
