-- A call that ends leaves nothing of itself in its frame.
use Rattle.std.proofs.Common.{◌≡◌, ℕ, Bool, true, false, List, [], ◌∷◌, refl, sym, ap, ◌∙◌, is_some, nat_lt, if◌then◌else◌}
use Rattle.pool_run.proofs.Imports.{objects_in, objects_wanted, Asked, nothing_asked, module_asked, stack_asked, memory_asked, table_asked, heap_asked, heap_over_asked, Lease, LeasedTable, is_idle, Turn, goes, ends, next, flush, search, stays, Row, Left, failing, all_returned, returned_next, granted_next, next_by, is_flushed, after, stepped, Ending, granted, returned, refused, Frame, Phase, Idle, PoolCore, PlainHeap}

-- nothing is left of a call
pub record IsClear (asked : Asked) (ending : Ending) (queues : ℕ) : Type 0 where
  pub asked_for : asked ≡ nothing_asked
  pub aim : ending ≡ returned
  pub none_taken : queues ≡ 0

module _ {P : Type 0} where
  -- where no call is under way
  abbrev pub IsClearIdle : Frame P PlainHeap → Type 0
  IsClearIdle f = is_idle f.phase ≡ true → IsClear f.asked f.ending f.queues

  -- where a call ended
  abbrev IsClearLeft : Left P PlainHeap → Type 0
  IsClearLeft l = is_some l.outcome ≡ true → IsClear l.frame.asked l.frame.ending l.frame.queues

  either_clear : (b : Bool) (x y : Left P PlainHeap) → IsClearLeft x → IsClearLeft y → IsClearLeft (if b then x else y)
  either_clear true x y one other = one
  either_clear false x y one other = other

  all_clear : (asked : Asked) (f : Frame P PlainHeap) → IsClearLeft (all_returned asked f)
  all_clear (memory_asked m) f = λ e. record { asked_for = refl; aim = refl; none_taken = refl }
  all_clear (table_asked ty) f = λ e. record { asked_for = refl; aim = refl; none_taken = refl }
  all_clear stack_asked f = λ e. record { asked_for = refl; aim = refl; none_taken = refl }
  all_clear nothing_asked f = λ e. absurd cc
  all_clear (module_asked m) f = λ e. absurd cc
  all_clear (heap_asked ty) f = λ e. record { asked_for = refl; aim = refl; none_taken = refl }
  all_clear (heap_over_asked memory) f = λ e. record { asked_for = refl; aim = refl; none_taken = refl }

  returned_clear : (items : List Lease) (tables : List LeasedTable) (f : Frame P PlainHeap) → IsClearLeft (returned_next items tables f)
  returned_clear [] [] f = all_clear f.asked f
  returned_clear [] (lease ∷ rest) f = λ e. absurd cc
  returned_clear (lease ∷ rest) tables f = λ e. absurd cc

  granted_clear : (f : Frame P PlainHeap) → IsClearLeft (granted_next f)
  granted_clear f = either_clear (nat_lt (objects_in f.objects) (objects_wanted f.asked)) _ _ (λ e. absurd cc) (λ e. record { asked_for = refl; aim = refl; none_taken = refl })

  next_clear : (e : Ending) (f : Frame P PlainHeap) → IsClearLeft (next_by e f)
  next_clear granted f = granted_clear f
  next_clear returned f = returned_clear f.objects.memories.items f.objects.tables.items f
  next_clear (refused e) f = returned_clear f.objects.memories.items f.objects.tables.items f

  after_clear : (f : Frame P PlainHeap) (t : Turn P PlainHeap) → IsClearLeft (after f t)
  after_clear f (goes phase) = λ e. absurd cc
  after_clear f stays = λ e. absurd cc
  after_clear f (ends outcome) = λ e. record { asked_for = refl; aim = refl; none_taken = refl }
  after_clear f next = next_clear f.ending f
  after_clear f flush = either_clear (is_flushed f) _ _ (next_clear f.ending f) (λ e. absurd cc)
  after_clear f (search queues e) = either_clear (nat_lt f.queues queues) _ _ (λ some. absurd cc) (returned_clear f.objects.memories.items f.objects.tables.items (failing e f))

  -- So a frame is after a step, where it answers.
  pub stepped_clear : (r : Row (PoolCore P PlainHeap) P PlainHeap) → is_some (stepped r).outcome ≡ true → IsClear (stepped r).frame.asked (stepped r).frame.ending (stepped r).frame.queues
  stepped_clear r some = after_clear r.frame r.turn some

  -- Such a frame is what the end of a request leaves of it.
  pub clear_is : (f : Frame P PlainHeap) → f.phase ≡ Idle → IsClear f.asked f.ending f.queues → record f { phase = Idle; asked = nothing_asked; ending = returned; queues = 0 } ≡ f
  clear_is f idle clear =
      ap (λ (x : Phase P PlainHeap). record f { phase = x; asked = nothing_asked; ending = returned; queues = 0 }) (sym idle) ∙ ap (λ (o : Asked). record f { asked = o; ending = returned; queues = 0 }) (sym clear.asked_for)
      ∙ ap (λ (e : Ending). record f { ending = e; queues = 0 }) (sym clear.aim) ∙ ap (λ (n : ℕ). record f { queues = n }) (sym clear.none_taken)
