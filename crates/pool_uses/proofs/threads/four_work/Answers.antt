use denote.Exit.{no}
use denote.Param.Send.{arg_send, param_send, plain_send}
use denote.Struct.Field.{u32-field}
use Rattle.pool_uses.specs.contracts.threads.Worker as Worker
use Rattle.std.proofs.Common.{ℕ, List, [], ◌∷◌}
use Rattle.pool_uses.proofs.Sent.{CallerRow, one_send, two_captured, two_send, worker_send}
use Rattle.pool_uses.proofs.threads.four_work.Goals as goal

-- The name of the first closure.
abbrev closure : List ℕ
closure = 112 ∷ 111 ∷ 111 ∷ 108 ∷ 95 ∷ 117 ∷ 115 ∷ 101 ∷ 115 ∷ 58 ∷ 58 ∷ 116 ∷ 104 ∷ 114 ∷ 101 ∷ 97 ∷ 100 ∷ 115 ∷ 58 ∷ 58 ∷ 102 ∷ 110 ∷ 58 ∷ 58 ∷ 102 ∷ 111 ∷ 117 ∷ 114 ∷ 95 ∷ 119 ∷ 111 ∷ 114 ∷ 107 ∷ 58 ∷ 58 ∷ 106 ∷ 111 ∷ 105 ∷ 110 ∷ 43 ∷ 97 ∷ 114 ∷ 103 ∷ 50 ∷ 43 ∷ 83 ∷ 101 ∷ 108 ∷ 102 ∷ []

pub join-requires-send-F : goal.join-requires-send-F
join-requires-send-F g c κs within = param_send 1 _ (arg_send _ no _ (two_captured closure g.row.R κs.1.1.1.1.1.1.0 κs.1.1.1.1.1.1.1.0 _ c.type_bounds.sync-R Worker.the_row Worker.the_row worker_send worker_send))

-- The name of a pair.
abbrev pair : List ℕ
pair = 40 ∷ 44 ∷ 41 ∷ []

pub join-requires-send-A : goal.join-requires-send-A
join-requires-send-A g c κs within = param_send 3 _ (arg_send _ no _ (two_send pair _ _ (two_send pair CallerRow (u32-field).row one_send (plain_send _ _ _ _ _)) (two_send pair CallerRow (u32-field).row one_send (plain_send _ _ _ _ _))))
