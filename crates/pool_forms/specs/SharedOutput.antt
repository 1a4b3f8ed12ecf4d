-- The text of the replies to the events on a shared memory.
use Rattle.std.specs.Prelude.{ℕ, ◌+◌, List, [], ◌∷◌, ◌++◌, codes}
use Rattle.pool_forms.specs.Imports.{decimal, WaitStep, Woken, Mismatch, TimedOut, Parked, SharedReply, Wait, WaiterBusy, WaiterIdle, Notified}
use Rattle.pool_run_shared.specs.declared.reply.SharedReply.TheVariants.{Bytes, Done, Grown, Size, Trap}
use Rattle.pool_forms.specs.Output.{line_feed, bytes_text, grown_text, trap_text}

-- how a wait stands
abbrev pub wait_text : WaitStep → List ℕ
wait_text Woken = codes "ok"
wait_text Mismatch = codes "mismatch"
wait_text TimedOut = codes "timed-out"
wait_text Parked = codes "parked"

-- The reply to one event as it is printed.
abbrev pub shared_reply_text : SharedReply → List ℕ
shared_reply_text (Wait step) = wait_text step
shared_reply_text WaiterBusy = codes "refused WaiterBusy"
shared_reply_text WaiterIdle = codes "refused WaiterIdle"
shared_reply_text (Notified n) = codes "notified " ++ decimal n
shared_reply_text (Bytes bytes) = codes "bytes " ++ bytes_text bytes
shared_reply_text Done = codes "done"
shared_reply_text (Grown old) = grown_text old
shared_reply_text (Size size) = codes "size " ++ decimal size
shared_reply_text (Trap trap) = codes "trap " ++ trap_text trap

-- the line of the reply to the event of this number
abbrev pub event_line : ℕ → SharedReply → List ℕ
event_line event reply = decimal event ++ codes ": " ++ shared_reply_text reply ++ line_feed

-- the lines of the replies, of which the first is to the event of this number
abbrev pub event_lines : ℕ → List SharedReply → List ℕ
event_lines event [] = []
event_lines event (reply ∷ replies) = event_line event reply ++ event_lines (event + 1) replies

-- a line for each event
abbrev pub shared_text : List SharedReply → List ℕ
shared_text replies = event_lines 0 replies
