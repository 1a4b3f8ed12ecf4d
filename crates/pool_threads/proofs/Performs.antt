-- What a party's seat has noted, from one command to the next.
use Rattle.std.proofs.Common.{◌≡◌, ℕ, ◌+◌, ◌-◌, ◌≤◌, ◌++◌, ◌∷◌, Bool, true, false, List, [], length, Option, Some, None, is_some, refl, subst, arith, slice_get, true≢false}
use Rattle.pool_hall.specs.declared.view.View.{View}
use Rattle.pool_slots.specs.declared.listed_heaps.PlainHeap.{PlainHeap}
use Rattle.pool_slots.specs.declared.plan.Plan.{Plan}
use Rattle.pool_alloc.specs.PlainModules.{ModuleAsked}
use Rattle.pool_alloc.specs.declared.frame.Frame.{Frame}
use Rattle.pool_run.specs.Acts.{act_of}
use Rattle.pool_run.specs.declared.command.Command.{Command}
use Rattle.pool_run.specs.declared.reply.Reply.{Reply}
use Rattle.pool_threads.specs.Asked.{Scarce, asked, asked_at, asked_next, at_next, faulted, faulted_by, faulted_in, refused, refused_by, refused_in}
use Rattle.pool_threads.specs.Noted.{Notes, call_asks}
use Rattle.pool_threads.proofs.Adds.{notes_add, notes_less, notes_still}
use Rattle.pool_threads.proofs.Replied.{faulted_most, none_replied, one_replied, refused_most, used_most}

pub none_is : {X : Type 0} (o : Option X) → is_some o ≡ false → o ≡ None
none_is None is = refl
none_is (Some x) is = absurd (true≢false is)

undrawn : (k : Scarce) (modules : List ModuleAsked) (keyed : Bool) (next : Option Command) → keyed ≡ false → asked_next k modules keyed next ≡ 0
undrawn k modules keyed None is = refl
undrawn k modules false (Some command) is = refl
undrawn k modules true (Some command) is = absurd (true≢false is)

module _ {T P : Type 0} (plan : Plan) (first home stripe : ℕ) (modules : List ModuleAsked) (next : Option Command) (keyed : Bool) (f : Frame P PlainHeap) (v w : View T) (same : first ≡ home) (asks : (k : Scarce) → call_asks f k ≤ asked_next k modules keyed next) where
  -- The call for a stripe uses up nothing.
  pub drawn_notes : (o : Option Reply) → keyed ≡ false → Notes plan first stripe (λ k. call_asks f k - refused_in k o) (λ k. refused_in k o) (faulted_in o) v w → Notes plan home stripe (λ k. 0) (λ k. 0) 0 v w
  drawn_notes o is notes =
      subst (λ (n : ℕ). Notes plan n stripe (λ k. 0) (λ k. 0) 0 v w) same
      (notes_less plan first stripe (λ k. call_asks f k - refused_in k o) (λ k. 0) (λ k. refused_in k o) (λ k. 0) (faulted_in o) 0 v w
      (λ k. omega (arith, asks k, undrawn k modules keyed next is)) (λ k. omega arith) (omega arith) notes)

  used_next : (n : Option Command) (reply : Reply) (k : Scarce) → call_asks f k ≤ asked_next k modules true n → call_asks f k - refused_in k (Some reply) ≤ at_next (asked_at k modules) n reply
  used_next None reply k most = omega (arith, most)
  used_next (Some command) reply k most = used_most k modules (act_of command) reply (call_asks f k) most

  refused_next : (n : Option Command) (reply : Reply) (k : Scarce) → at_next (refused_by k) n reply ≤ refused_in k (Some reply)
  refused_next None reply k = omega arith
  refused_next (Some command) reply k = refused_most k (act_of command) reply

  faulted_next : (n : Option Command) (reply : Reply) → at_next faulted_by n reply ≤ faulted_in (Some reply)
  faulted_next None reply = omega arith
  faulted_next (Some command) reply = faulted_most (act_of command) reply

  -- The call of a command uses up no more than the command asks for.
  pub command_notes : (o : Option Reply) (reply : Reply) → keyed ≡ true → o ≡ Some reply → Notes plan first stripe (λ k. call_asks f k - refused_in k o) (λ k. refused_in k o) (faulted_in o) v w
      → Notes plan home stripe (λ k. at_next (asked_at k modules) next reply) (λ k. at_next (refused_by k) next reply) (at_next faulted_by next reply) v w
  command_notes o reply drawn is notes =
      let told : Notes plan first stripe (λ k. call_asks f k - refused_in k (Some reply)) (λ k. refused_in k (Some reply)) (faulted_in (Some reply)) v w =
      subst (λ (x : Option Reply). Notes plan first stripe (λ k. call_asks f k - refused_in k x) (λ k. refused_in k x) (faulted_in x) v w) is notes in
      subst (λ (n : ℕ). Notes plan n stripe (λ k. at_next (asked_at k modules) next reply) (λ k. at_next (refused_by k) next reply) (at_next faulted_by next reply) v w) same
      (notes_less plan first stripe (λ k. call_asks f k - refused_in k (Some reply)) (λ k. at_next (asked_at k modules) next reply) (λ k. refused_in k (Some reply)) (λ k. at_next (refused_by k) next reply) (faulted_in (Some reply)) (at_next faulted_by next reply) v w
      (λ k. used_next next reply k (subst (λ (b : Bool). call_asks f k ≤ asked_next k modules b next) drawn (asks k))) (λ k. refused_next next reply k) (faulted_next next reply) told)

module _ {T : Type 0} (plan : Plan) (home stripe : ℕ) (modules : List ModuleAsked) (commands : List Command) where
  -- A command that ended at once used up nothing.
  pub quiet_notes : (next : Option Command) (reply : Reply) (v : View T) → ((k : Scarce) → at_next (refused_by k) next reply ≡ 0) → at_next faulted_by next reply ≡ 0 → Notes plan home stripe (λ k. at_next (asked_at k modules) next reply) (λ k. at_next (refused_by k) next reply) (at_next faulted_by next reply) v v
  quiet_notes next reply v none fine =
      notes_less plan home stripe (λ k. 0) (λ k. at_next (asked_at k modules) next reply) (λ k. 0) (λ k. at_next (refused_by k) next reply) 0 (at_next faulted_by next reply) v v
      (λ k. omega arith) (λ k. omega (arith, none k)) (omega (arith, fine)) (notes_still plan home stripe (λ k. 0) v)

  -- What it has noted of the commands so far,
  abbrev pub NotesSoFar : List Reply → View T → View T → Type 0
  NotesSoFar replies u v = Notes plan home stripe (λ k. asked k modules commands replies) (λ k. refused k commands replies) (faulted commands replies) u v

  -- of none,
  pub first_notes : (v : View T) → NotesSoFar [] v v
  first_notes v =
      notes_less plan home stripe (λ k. 0) (λ k. asked k modules commands []) (λ k. 0) (λ k. refused k commands []) 0 (faulted commands []) v v
      (λ k. omega arith) (λ k. omega (arith, none_replied (refused_by k) commands)) (omega (arith, none_replied faulted_by commands)) (notes_still plan home stripe (λ k. 0) v)

  -- and of one more.
  pub next_notes : (before : List Reply) (reply : Reply) (n : ℕ) (u v w : View T) → length before ≡ n → NotesSoFar before u v → Notes plan home stripe (λ k. at_next (asked_at k modules) (slice_get commands n) reply) (λ k. at_next (refused_by k) (slice_get commands n) reply) (at_next faulted_by (slice_get commands n) reply) v w → NotesSoFar (before ++ reply ∷ []) u w
  next_notes before reply n u v w count so_far one =
      notes_less plan home stripe (λ k. asked k modules commands before + at_next (asked_at k modules) (slice_get commands n) reply) (λ k. asked k modules commands (before ++ reply ∷ []))
      (λ k. refused k commands before + at_next (refused_by k) (slice_get commands n) reply) (λ k. refused k commands (before ++ reply ∷ []))
      (faulted commands before + at_next faulted_by (slice_get commands n) reply) (faulted commands (before ++ reply ∷ [])) u w
      (λ k. omega (arith, one_replied (asked_at k modules) commands before reply n count)) (λ k. omega (arith, one_replied (refused_by k) commands before reply n count)) (omega (arith, one_replied faulted_by commands before reply n count))
      (notes_add plan home stripe (λ k. asked k modules commands before) (λ k. at_next (asked_at k modules) (slice_get commands n) reply) (λ k. refused k commands before) (λ k. at_next (refused_by k) (slice_get commands n) reply) (faulted commands before) (at_next faulted_by (slice_get commands n) reply) u v w so_far one)

  -- The same, where the party is at home there still, and its stripe is the one that it was.
  pub loop_notes : (before : List Reply) (reply : Reply) (n at_home its_stripe : ℕ) (u v w : View T) → at_home ≡ home → its_stripe ≡ stripe → length before ≡ n → NotesSoFar before u v
      → Notes plan at_home its_stripe (λ k. at_next (asked_at k modules) (slice_get commands n) reply) (λ k. at_next (refused_by k) (slice_get commands n) reply) (at_next faulted_by (slice_get commands n) reply) v w → NotesSoFar (before ++ reply ∷ []) u w
  loop_notes before reply n at_home its_stripe u v w here drawn count so_far one =
      let told : Notes plan home its_stripe (λ k. at_next (asked_at k modules) (slice_get commands n) reply) (λ k. at_next (refused_by k) (slice_get commands n) reply) (at_next faulted_by (slice_get commands n) reply) v w =
      subst (λ (h : ℕ). Notes plan h its_stripe (λ k. at_next (asked_at k modules) (slice_get commands n) reply) (λ k. at_next (refused_by k) (slice_get commands n) reply) (at_next faulted_by (slice_get commands n) reply) v w) here one in
      next_notes before reply n u v w count so_far (subst (λ (s : ℕ). Notes plan home s (λ k. at_next (asked_at k modules) (slice_get commands n) reply) (λ k. at_next (refused_by k) (slice_get commands n) reply) (at_next faulted_by (slice_get commands n) reply) v w) drawn told)

  -- After the stripe is drawn, which uses up nothing.
  pub all_notes : (replies : List Reply) (u v w : View T) → Notes plan home stripe (λ k. 0) (λ k. 0) 0 u v → NotesSoFar replies v w → NotesSoFar replies u w
  all_notes replies u v w drawn made =
      notes_less plan home stripe (λ k. 0 + asked k modules commands replies) (λ k. asked k modules commands replies) (λ k. 0 + refused k commands replies) (λ k. refused k commands replies) (0 + faulted commands replies) (faulted commands replies) u w
      (λ k. omega arith) (λ k. omega arith) (omega arith) (notes_add plan home stripe (λ k. 0) (λ k. asked k modules commands replies) (λ k. 0) (λ k. refused k commands replies) 0 (faulted commands replies) u v w drawn made)

  -- Both, by the party's home and by its stripe once it is drawn.
  pub party_notes : (replies : List Reply) (h g s : ℕ) (u v w : View T) → h ≡ home → g ≡ home → s ≡ stripe → Notes plan h s (λ k. 0) (λ k. 0) 0 u v → Notes plan g s (λ k. asked k modules commands replies) (λ k. refused k commands replies) (faulted commands replies) v w → NotesSoFar replies u w
  party_notes replies h g s u v w one two drawn first made =
      let before : Notes plan home stripe (λ k. 0) (λ k. 0) 0 u v = subst (λ (x : ℕ). Notes plan home x (λ k. 0) (λ k. 0) 0 u v) drawn (subst (λ (x : ℕ). Notes plan x s (λ k. 0) (λ k. 0) 0 u v) one first) in
      let after : NotesSoFar replies v w =
      subst (λ (x : ℕ). Notes plan home x (λ k. asked k modules commands replies) (λ k. refused k commands replies) (faulted commands replies) v w) drawn
      (subst (λ (x : ℕ). Notes plan x s (λ k. asked k modules commands replies) (λ k. refused k commands replies) (faulted commands replies) v w) two made) in
      all_notes replies u v w before after
