use denote.Exit.{no}
use denote.Param.Send.{arg_send, param_send, plain_send}
use denote.Struct.Field.{bool-field}
use Rattle.std.proofs.Common.{ℕ, List, [], ◌∷◌}
use Rattle.pool_uses.proofs.Sent.{CallerRow, one_captured, one_send, two_send}
use Rattle.pool_uses.proofs.threads.both_hold_each.Goals as goal

-- The name of the first closure.
abbrev closure : List ℕ
closure = 112 ∷ 111 ∷ 111 ∷ 108 ∷ 95 ∷ 117 ∷ 115 ∷ 101 ∷ 115 ∷ 58 ∷ 58 ∷ 116 ∷ 104 ∷ 114 ∷ 101 ∷ 97 ∷ 100 ∷ 115 ∷ 58 ∷ 58 ∷ 102 ∷ 110 ∷ 58 ∷ 58 ∷ 98 ∷ 111 ∷ 116 ∷ 104 ∷ 95 ∷ 104 ∷ 111 ∷ 108 ∷ 100 ∷ 95 ∷ 101 ∷ 97 ∷ 99 ∷ 104 ∷ 58 ∷ 58 ∷ 106 ∷ 111 ∷ 105 ∷ 110 ∷ 43 ∷ 97 ∷ 114 ∷ 103 ∷ 50 ∷ 43 ∷ 83 ∷ 101 ∷ 108 ∷ 102 ∷ []

pub join-requires-send-F : goal.join-requires-send-F
join-requires-send-F g c κs within = param_send 1 _ (arg_send _ no _ (one_captured closure g.row.R κs.1.1.1.1.1.1.0 κs.1.1.1.1.1.1.1.0 _ c.type_bounds.sync-R CallerRow one_send))

-- The name of a pair.
abbrev pair : List ℕ
pair = 40 ∷ 44 ∷ 41 ∷ []

pub join-requires-send-A : goal.join-requires-send-A
join-requires-send-A g c κs within = param_send 3 _ (arg_send _ no _ (two_send pair CallerRow _ one_send (two_send pair (bool-field).row (bool-field).row (plain_send _ _ _ _ _) (plain_send _ _ _ _ _))))
