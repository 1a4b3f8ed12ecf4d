-- What a change of a lease is as a move of its memory.
use Rattle.std.proofs.Common.{◌≡◌, ℕ, ◌+◌, ◌<◌, Bool, true, false, List, length, Option, Some, Result, Ok, Err, sym, ap, ◌∙◌, subst, nat_le, slice_get, slice_set, slice_index_or, if◌then◌else◌, OnOk, OnErr}
use Rattle.pool_run.proofs.Imports.{set-get_or, get_or_from_slice_get, slice_get-get_or, Exchange, LimiterTold, GrowthRule, GrowFault, Trap, MemoryOutOfBounds, MemoryState, memory_written, Lease, IsWritten, IsChanged, IsGrown, Reserved}
use Rattle.pool_run.specs.AtOnce.{GrowsUnder, write_reply, growth_reply}
use Rattle.pool_run.specs.Turns.{MemoryWrites, MemoryGrows, MovesLease}
use Rattle.pool_run.specs.declared.reply.Reply.{Reply}
use Rattle.pool_run.specs.declared.reply.Reply.TheVariants.{Done, Trap as trapped}
use Rattle.pool_run.proofs.Growths.{grown_as}

pub changed_as : {L : Type 0} (A B : L → L → Type 0) (place : ℕ) (old new : Reserved L) → ((l n : L) → A l n → B l n) → IsChanged A place old new → IsChanged B place old new
changed_as A B place old new step is = record { lease = is.lease; change = λ d. step (slice_index_or old.items place d) is.lease (is.change d); is = is.is }

-- A lease that is only looked at stays as it is.
pub looked_at : {L : Type 0} (A : L → L → Type 0) (place : ℕ) (old : Reserved L) (l : L) → place < length old.items → l ≡ slice_index_or old.items place l → A l l → IsChanged A place old old
looked_at {L} A place old l below there is =
    let get : slice_get old.items place ≡ Some l = slice_get-get_or old.items place l below ∙ ap Some (sym there) in
    record {
      lease = l;
      change = λ d. let At : L → Type 0 = λ x. A x l in subst At (sym (get_or_from_slice_get old.items place l d get)) is;
      is = ap (λ (xs : List L). record old { items = xs }) (sym (ap (slice_set old.items place) there ∙ set-get_or old.items place l));
    }

-- what a write leaves, with its reply
abbrev written_as : ℕ → List ℕ → MemoryState → Bool → MemoryState × Reply
written_as i bytes m b = if b then (memory_written i bytes m, Done) else (m, trapped MemoryOutOfBounds)

abbrev answered_as : Bool → Result (Unit {0}) Trap
answered_as b = if b then Ok tt else Err MemoryOutOfBounds

written_by : (i : ℕ) (bytes : List ℕ) (l n : Lease) (result : Result (Unit {0}) Trap) (b : Bool) → result ≡ answered_as b → IsWritten i bytes l n result → ◌≡◌ {A = MemoryState × Reply} (n.memory, write_reply result) (written_as i bytes l.memory b)
written_by i bytes l n result true answer is =
    let On : Result (Unit {0}) Trap → Type 0 = λ r. OnOk r (n.memory ≡ memory_written i bytes l.memory) in
    ap (λ (r : Result (Unit {0}) Trap). (n.memory, write_reply r)) answer ∙ ap (λ (m : MemoryState). (m, Done)) (subst On answer is.written)
written_by i bytes l n result false answer is =
    let On : Result (Unit {0}) Trap → Type 0 = λ r. OnErr r (n.memory ≡ l.memory) in
    ap (λ (r : Result (Unit {0}) Trap). (n.memory, write_reply r)) answer ∙ ap (λ (m : MemoryState). (m, trapped MemoryOutOfBounds)) (subst On answer is.unwritten)

pub write_moves : (i : ℕ) (bytes : List ℕ) (l n : Lease) (result : Result (Unit {0}) Trap) → IsWritten i bytes l n result → MovesLease (MemoryWrites i bytes) l n (write_reply result)
write_moves i bytes l n result is = record { same = is.same; memory = is.memory; move = written_by i bytes l n result (nat_le (i + length bytes) l.memory.linear.size) is.answer is }

-- a growth of it, over a limiter that tells this rule
pub grown_under : {R : Type 0} (told : R → LimiterTold) (leads : R → Exchange → R → Type 0) (rule : GrowthRule) (pages : ℕ) (l n : Lease) (before after : R) (answer : Result (Option ℕ) GrowFault) → IsGrown told leads pages l n before after answer → (told before).rule ≡ Some rule → GrowsUnder rule pages l n answer
grown_under told leads rule pages l n before after answer is ruled = record { same = is.same; memory = is.memory; growth = (is.growth.0, told before, told after, ruled, is.growth.1.0) }

pub growth_moves : (rule : GrowthRule) (pages : ℕ) (l n : Lease) (answer : Result (Option ℕ) GrowFault) → GrowsUnder rule pages l n answer → MovesLease (MemoryGrows rule pages) l n (growth_reply answer)
growth_moves rule pages l n answer is =
    let stays : l.memory.may_move ≡ false = sym (ap (λ (m : MemoryState). m.may_move) is.growth.4.memory) ∙ is.memory.fixed in
    record { same = is.same; memory = is.memory; move = grown_as rule pages l.memory n.memory is.growth.0 is.growth.1 is.growth.2 answer stays is.growth.3 is.growth.4 }
