-- No more requests are refused for a failed page call than there are commands.
use Rattle.std.proofs.Common.{◌≡◌, ℕ, zero, suc, ◌+◌, ◌*◌, ◌^◌, ◌<◌, ◌≤◌, true, List, [], ◌∷◌, length, Some, refl, arith, slice_get}
use Rattle.pool_slots.specs.declared.errors.AllocError.{AllocError}
use Rattle.pool_slots.specs.declared.errors.AllocError.TheVariants as alloc
use Rattle.pool_run.specs.Acts.{Act, requests, on_memory, on_table, drops, purges, releases, act_of}
use Rattle.pool_run.specs.Validity.{is_valid, most_commands, most_parties}
use Rattle.pool_run.specs.declared.command.Command.{Command}
use Rattle.pool_run.specs.declared.input.Input.{Input}
use Rattle.pool_run.specs.declared.input.Party.{Party}
use Rattle.pool_run.specs.declared.reply.Refusal.{Refusal}
use Rattle.pool_run.specs.declared.reply.Refusal.TheVariants as refusal
use Rattle.pool_run.specs.declared.reply.Reply.{Reply}
use Rattle.pool_run.specs.declared.reply.Reply.TheVariants as reply_is
use Rattle.pool_run.proofs.Valid.{few_commands, valid_parties}
use Rattle.pool_threads.specs.Asked.{faulted, faulted_by, faulted_for, over_replies}
use Rattle.pool_threads.proofs.Replied.{faulted_most}
use Rattle.pool_workers.specs.Joined.{faulted_of_all, over_all}

by_error : (e : AllocError) → faulted_for (reply_is.Refused (refusal.Alloc e)) ≤ 1
by_error alloc.Memory = omega arith
by_error (alloc.Unsupported rule) = omega arith
by_error (alloc.Limit l) = omega arith
by_error alloc.StacksDisabled = omega arith
by_error alloc.HeapsDisabled = omega arith
by_error (alloc.LimiterDenied table min) = omega arith
by_error (alloc.LimiterFault e) = omega arith
by_error alloc.PageFault = omega arith
by_error alloc.HeapFault = omega arith

by_refusal : (r : Refusal) → faulted_for (reply_is.Refused r) ≤ 1
by_refusal refusal.NoSuchGrant = omega arith
by_refusal refusal.GcStoreFault = omega arith
by_refusal (refusal.Alloc e) = by_error e

by_reply : (reply : Reply) → faulted_for reply ≤ 1
by_reply (reply_is.Instance memories tables) = omega arith
by_reply reply_is.Component = omega arith
by_reply (reply_is.Stack slot) = omega arith
by_reply (reply_is.Heap heap memory) = omega arith
by_reply (reply_is.Bytes bytes) = omega arith
by_reply reply_is.Done = omega arith
by_reply (reply_is.Size n) = omega arith
by_reply (reply_is.Grown old) = omega arith
by_reply (reply_is.Element e) = omega arith
by_reply reply_is.Returned = omega arith
by_reply (reply_is.Purged n) = omega arith
by_reply (reply_is.Released n) = omega arith
by_reply (reply_is.Refused r) = by_refusal r
by_reply (reply_is.Trap t) = omega arith

one_at_most : (act : Act) (reply : Reply) → faulted_by act reply ≤ 1
one_at_most act reply = omega (arith, faulted_most act reply, by_reply reply)

by_commands : (commands : List Command) (replies : List Reply) → faulted commands replies ≤ length commands
by_commands [] replies = omega arith
by_commands (c ∷ cs) [] = omega arith
by_commands (c ∷ cs) (r ∷ rs) = omega (arith, one_at_most (act_of c) r, by_commands cs rs)

by_parties : (parties : List Party) (replies : List (List Reply)) → ((i : ℕ) (p : Party) → slice_get parties i ≡ Some p → length p.commands ≤ most_commands) → faulted_of_all parties replies ≤ length parties * most_commands
by_parties [] replies few = omega arith
by_parties (p ∷ ps) [] few = omega arith
by_parties (p ∷ ps) (r ∷ rs) few = omega (arith, few 0 p refl, by_commands p.commands r, by_parties ps rs (λ i q is. few (suc i) q is))

-- So they are few, in an input that can be run.
pub few_faulted : (input : Input) (replies : List (List Reply)) → is_valid input ≡ true → faulted_of_all input.parties replies + 1 < 2 ^ 64
few_faulted input replies valid =
    let each : faulted_of_all input.parties replies ≤ length input.parties * most_commands = by_parties input.parties replies (λ i p is. few_commands input i p valid is) in
    omega (arith, each, valid_parties input valid)
