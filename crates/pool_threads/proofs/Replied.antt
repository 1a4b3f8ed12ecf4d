-- What commands and their replies come to, with one reply more.
use Rattle.std.proofs.Common.{◌≡◌, ℕ, zero, suc, ◌+◌, ◌-◌, ◌≤◌, ◌++◌, ◌∷◌, [], List, length, refl, arith, slice_get}
use Rattle.pool_alloc.specs.PlainModules.{ModuleAsked}
use Rattle.pool_run.specs.Acts.{Act, requests, on_memory, on_table, drops, purges, releases}
use Rattle.pool_run.specs.declared.command.Command.{Command}
use Rattle.pool_run.specs.declared.reply.Reply.{Reply}
use Rattle.pool_threads.specs.Asked.{Scarce, asked_at, asked_by, at_next, faulted_by, faulted_for, over_replies, refused_by, refused_for}

pub none_replied : (f : Act → Reply → ℕ) (commands : List Command) → over_replies f commands [] ≡ 0
none_replied f [] = refl
none_replied f (c ∷ cs) = refl

-- One reply more adds what it is for the command to which it is the reply.
pub one_replied : (f : Act → Reply → ℕ) (commands : List Command) (before : List Reply) (reply : Reply) (n : ℕ) → length before ≡ n → over_replies f commands (before ++ reply ∷ []) ≡ over_replies f commands before + at_next f (slice_get commands n) reply
one_replied f [] before reply n is = refl
one_replied f (c ∷ cs) [] reply zero is = omega (arith, none_replied f cs)
one_replied f (c ∷ cs) [] reply (suc n) is = absurd (omega (arith, is))
one_replied f (c ∷ cs) (b ∷ bs) reply zero is = absurd (omega (arith, is))
one_replied f (c ∷ cs) (b ∷ bs) reply (suc n) is = omega (arith, one_replied f cs bs reply n (omega (arith, is)))

-- A command is refused at most as its reply says,
pub refused_most : (k : Scarce) (act : Act) (reply : Reply) → refused_by k act reply ≤ refused_for k reply
refused_most k (requests wanted) reply = omega arith
refused_most k (on_memory of n op) reply = omega arith
refused_most k (on_table of n op) reply = omega arith
refused_most k (drops of) reply = omega arith
refused_most k (purges number) reply = omega arith
refused_most k releases reply = omega arith

pub faulted_most : (act : Act) (reply : Reply) → faulted_by act reply ≤ faulted_for reply
faulted_most (requests wanted) reply = omega arith
faulted_most (on_memory of n op) reply = omega arith
faulted_most (on_table of n op) reply = omega arith
faulted_most (drops of) reply = omega arith
faulted_most (purges number) reply = omega arith
faulted_most releases reply = omega arith

-- and a call that asks for as much as its command has used up no more than that may.
pub used_most : (k : Scarce) (modules : List ModuleAsked) (act : Act) (reply : Reply) (n : ℕ) → n ≤ asked_by k modules act → n - refused_for k reply ≤ asked_at k modules act reply
used_most k modules (requests wanted) reply n less = omega (arith, less)
used_most k modules (on_memory of m op) reply n less = omega (arith, less)
used_most k modules (on_table of m op) reply n less = omega (arith, less)
used_most k modules (drops of) reply n less = omega (arith, less)
used_most k modules (purges number) reply n less = omega (arith, less)
used_most k modules releases reply n less = omega (arith, less)
