-- What a change of one list, or of each, makes of the lists of the kinds and of all slots.
use Rattle.std.proofs.Common.{◌≡◌, ℕ, ◌+◌, ◌<◌, ◌≤◌, ◌↔◌, List, [], ◌∷◌, ◌++◌, length, refl, sym, ap, ◌∙◌, subst, inl, inr, arith, map, Option, Some, None, IsSome}
use Rattle.std.specs.Option.{option_to_list}
use Rattle.pool_slots.proofs.Imports.{cases_Bool, length-append, length-map, map-append, SlotKind}
use Rattle.pool_hall.specs.declared.unit_name.SlotKind.TheVariants as of_slot
use Rattle.pool_slots.specs.declared.slot_name.SlotName.{SlotName}
use Rattle.pool_slots.specs.SlotQueues.{Queued, QueuedList, by_kind, first_of_kind, others_of_kind, is_to_zero, first_zeroed, forgotten}
use Rattle.pool_slots.specs.KindLists.{AreOfKind, AreKindLists}
use Rattle.pool_slots.proofs.Lists.{each_append, each_map}
use Rattle.pool_slots.proofs.KindLists.{kinds_of, kinds_joined, memory_joined, table_joined, stack_joined, memory_popped, table_popped, stack_popped, memory_zeroed, table_zeroed, stack_zeroed}
use Rattle.pool_slots.proofs.KindPlaces.{IsLikeBefore}
use Rattle.pool_slots.proofs.SlotPops.{zeroed_long}
use Rattle.pool_slots.proofs.SlotReturns.{name_by}
use Rattle.pool_slots.proofs.Unzeroed.{shorter}

pub long_three : (a b c : List Queued) → length (a ++ (b ++ c)) ≡ length a + (length b + length c)
long_three a b c = omega (arith, length-append a (b ++ c), length-append b c)

-- all slots, with their room
abbrev pub all_slots : QueuedList → QueuedList → QueuedList → QueuedList
all_slots m t s = record { items = m.items ++ (t.items ++ s.items); room = m.room }

-- Lists that are of their kinds still, no longer and with the same room.
pub record IsNoMore (kind : SlotKind) (old new : QueuedList) : Type 0 where
  pub only : AreOfKind kind old.items → AreOfKind kind new.items
  pub long : length new.items ≤ length old.items
  pub room : new.room ≡ old.room

pub no_more : (kind : SlotKind) (l : QueuedList) → IsNoMore kind l l
no_more kind l = record { only = λ of. of; long = omega arith; room = refl }

pub like_no_more : (kind : SlotKind) (old new : QueuedList) → IsLikeBefore kind old new → IsNoMore kind old new
like_no_more kind old new like = record { only = like.only; long = omega (arith, like.long); room = like.room }

pub still_listed : (m t s m' t' s' : QueuedList) → AreKindLists m t s → IsNoMore of_slot.Memory m m' → IsNoMore of_slot.Table t t' → IsNoMore of_slot.Stack s s' → AreKindLists m' t' s'
still_listed m t s m' t' s' is a b c =
    record {
      only_memories = a.only is.only_memories;
      only_tables = b.only is.only_tables;
      only_stacks = c.only is.only_stacks;
      table_room = b.room ∙ is.table_room ∙ sym a.room;
      stack_room = c.room ∙ is.stack_room ∙ sym a.room;
      within = omega (arith, a.long, b.long, c.long, a.room, is.within);
    }

-- A slot more.
abbrev pub with_last : Queued → QueuedList → QueuedList
with_last x l = record l { items = l.items ++ x ∷ [] }

more_of : (kind : SlotKind) (x : Queued) (l new : QueuedList) → new ≡ with_last x l → x.name.kind ≡ kind → AreOfKind kind l.items → AreOfKind kind new.items
more_of kind x l new now is of =
    subst (AreOfKind kind) (sym (ap (λ (y : QueuedList). y.items) now)) (each_append (λ m. m.name.kind ≡ kind) l.items (x ∷ []) of (is, tt))

long_more : (x : Queued) (l new : QueuedList) → new ≡ with_last x l → length new.items ≡ length l.items + 1
long_more x l new now = ap (λ (y : QueuedList). length y.items) now ∙ length-append l.items (x ∷ [])

room_more : (x : Queued) (l new : QueuedList) → new ≡ with_last x l → new.room ≡ l.room
room_more x l new now = ap (λ (y : QueuedList). y.room) now

pub memory_pushed : (m t s : QueuedList) (x : Queued) (new : QueuedList) → AreKindLists m t s → x.name.kind ≡ of_slot.Memory → length (m.items ++ (t.items ++ s.items)) < m.room → new ≡ with_last x m → AreKindLists new t s × (all_slots new t s ≡ record { items = by_kind ((m.items ++ (t.items ++ s.items)) ++ x ∷ []); room = m.room })
memory_pushed m t s x new is kind room now = (
  record {
    only_memories = more_of of_slot.Memory x m new now kind is.only_memories;
    only_tables = is.only_tables;
    only_stacks = is.only_stacks;
    table_room = is.table_room ∙ sym (room_more x m new now);
    stack_room = is.stack_room ∙ sym (room_more x m new now);
    within = omega (arith, long_more x m new now, room_more x m new now, long_three m.items t.items s.items, room);
  },
  ap (λ (y : QueuedList). all_slots y t s) now ∙ ap (λ (l : List Queued). record { items = l; room = m.room }) (sym (memory_joined m.items t.items s.items x (kinds_of m t s is) kind)),
)

pub table_pushed : (m t s : QueuedList) (x : Queued) (new : QueuedList) → AreKindLists m t s → x.name.kind ≡ of_slot.Table → length (m.items ++ (t.items ++ s.items)) < m.room → new ≡ with_last x t → AreKindLists m new s × (all_slots m new s ≡ record { items = by_kind ((m.items ++ (t.items ++ s.items)) ++ x ∷ []); room = m.room })
table_pushed m t s x new is kind room now = (
  record {
    only_memories = is.only_memories;
    only_tables = more_of of_slot.Table x t new now kind is.only_tables;
    only_stacks = is.only_stacks;
    table_room = room_more x t new now ∙ is.table_room;
    stack_room = is.stack_room;
    within = omega (arith, long_more x t new now, long_three m.items t.items s.items, room);
  },
  ap (λ (y : QueuedList). all_slots m y s) now ∙ ap (λ (l : List Queued). record { items = l; room = m.room }) (sym (table_joined m.items t.items s.items x (kinds_of m t s is) kind)),
)

pub stack_pushed : (m t s : QueuedList) (x : Queued) (new : QueuedList) → AreKindLists m t s → x.name.kind ≡ of_slot.Stack → length (m.items ++ (t.items ++ s.items)) < m.room → new ≡ with_last x s → AreKindLists m t new × (all_slots m t new ≡ record { items = by_kind ((m.items ++ (t.items ++ s.items)) ++ x ∷ []); room = m.room })
stack_pushed m t s x new is kind room now = (
  record {
    only_memories = is.only_memories;
    only_tables = is.only_tables;
    only_stacks = more_of of_slot.Stack x s new now kind is.only_stacks;
    table_room = is.table_room;
    stack_room = room_more x s new now ∙ is.stack_room;
    within = omega (arith, long_more x s new now, long_three m.items t.items s.items, room);
  },
  ap (λ (y : QueuedList). all_slots m t y) now ∙ ap (λ (l : List Queued). record { items = l; room = m.room }) (sym (stack_joined m.items t.items s.items x (kinds_of m t s is) kind)),
)

-- The first one less.
pub popped_memory : (o : Option Queued) (m t s new : QueuedList) → AreKindLists m t s → m.items ≡ option_to_list o ++ new.items → (IsSome o ↔ (0 < length m.items)) → new.room ≡ m.room → (o ≡ first_of_kind of_slot.Memory (m.items ++ (t.items ++ s.items))) × (all_slots new t s ≡ record { items = others_of_kind of_slot.Memory (m.items ++ (t.items ++ s.items)); room = m.room })
popped_memory o m t s new is items variant room =
    let p = memory_popped o m.items t.items s.items new.items (kinds_of m t s is) (record { items = items; variant = variant }) in
    (sym p.0, ap (λ (n : ℕ). record { items = new.items ++ (t.items ++ s.items); room = n }) room ∙ ap (λ (l : List Queued). record { items = l; room = m.room }) (sym p.1))

pub popped_table : (o : Option Queued) (m t s new : QueuedList) → AreKindLists m t s → t.items ≡ option_to_list o ++ new.items → (IsSome o ↔ (0 < length t.items)) → (o ≡ first_of_kind of_slot.Table (m.items ++ (t.items ++ s.items))) × (all_slots m new s ≡ record { items = others_of_kind of_slot.Table (m.items ++ (t.items ++ s.items)); room = m.room })
popped_table o m t s new is items variant =
    let p = table_popped o m.items t.items s.items new.items (kinds_of m t s is) (record { items = items; variant = variant }) in
    (sym p.0, ap (λ (l : List Queued). record { items = l; room = m.room }) (sym p.1))

pub popped_stack : (o : Option Queued) (m t s new : QueuedList) → AreKindLists m t s → s.items ≡ option_to_list o ++ new.items → (IsSome o ↔ (0 < length s.items)) → (o ≡ first_of_kind of_slot.Stack (m.items ++ (t.items ++ s.items))) × (all_slots m t new ≡ record { items = others_of_kind of_slot.Stack (m.items ++ (t.items ++ s.items)); room = m.room })
popped_stack o m t s new is items variant =
    let p = stack_popped o m.items t.items s.items new.items (kinds_of m t s is) (record { items = items; variant = variant }) in
    (sym p.0, ap (λ (l : List Queued). record { items = l; room = m.room }) (sym p.1))

-- Those of another queue more.
abbrev pub with_all : QueuedList → QueuedList → QueuedList
with_all l more = record l { items = l.items ++ more.items }

all_of : (kind : SlotKind) (l more new : QueuedList) → new ≡ with_all l more → AreOfKind kind l.items → AreOfKind kind more.items → AreOfKind kind new.items
all_of kind l more new now of also =
    subst (AreOfKind kind) (sym (ap (λ (y : QueuedList). y.items) now)) (each_append (λ m. m.name.kind ≡ kind) l.items more.items of also)

long_all : (l more new : QueuedList) → new ≡ with_all l more → length new.items ≡ length l.items + length more.items
long_all l more new now = ap (λ (y : QueuedList). length y.items) now ∙ length-append l.items more.items

pub lists_joined : (m t s n u v m' t' s' : QueuedList) → AreKindLists m t s → AreKindLists n u v → length (m.items ++ (t.items ++ s.items)) + length (n.items ++ (u.items ++ v.items)) ≤ m.room → m' ≡ with_all m n → t' ≡ with_all t u → s' ≡ with_all s v → AreKindLists m' t' s' × (all_slots m' t' s' ≡ record { items = by_kind ((m.items ++ (t.items ++ s.items)) ++ (n.items ++ (u.items ++ v.items))); room = m.room })
lists_joined m t s n u v m' t' s' is also room a b c =
    let room_of : (l more new : QueuedList) → new ≡ with_all l more → new.room ≡ l.room = λ l more new now. ap (λ (y : QueuedList). y.room) now in (
      record {
        only_memories = all_of of_slot.Memory m n m' a is.only_memories also.only_memories;
        only_tables = all_of of_slot.Table t u t' b is.only_tables also.only_tables;
        only_stacks = all_of of_slot.Stack s v s' c is.only_stacks also.only_stacks;
        table_room = room_of t u t' b ∙ is.table_room ∙ sym (room_of m n m' a);
        stack_room = room_of s v s' c ∙ is.stack_room ∙ sym (room_of m n m' a);
        within = omega (arith, long_all m n m' a, long_all t u t' b, long_all s v s' c, room_of m n m' a, long_three m.items t.items s.items, long_three n.items u.items v.items, room);
      },
      ap (λ (y : QueuedList). all_slots y t' s') a ∙ ap (λ (y : QueuedList). all_slots (with_all m n) y s') b ∙ ap (λ (y : QueuedList). all_slots (with_all m n) (with_all t u) y) c
          ∙ ap (λ (l : List Queued). record { items = l; room = m.room }) (sym (kinds_joined m.items t.items s.items n.items u.items v.items (kinds_of m t s is) (kinds_of n u v also))),
    )

-- Nothing is known of them.
pub forgotten_listed : (kind : SlotKind) (old new : QueuedList) → new ≡ record old { items = map forgotten old.items } → IsNoMore kind old new
forgotten_listed kind old new now =
    let items : new.items ≡ map forgotten old.items = ap (λ (y : QueuedList). y.items) now in
    record {
      only = λ of. subst (AreOfKind kind) (sym items) (each_map (λ m. m.name.kind ≡ kind) (λ m. m.name.kind ≡ kind) forgotten old.items (λ m is. is) of);
      long = omega (arith, ap (λ (l : List Queued). length l) items, length-map old.items forgotten);
      room = ap (λ (y : QueuedList). y.room) now;
    }

-- One is zeroed by hand.
zeroed_kind : (kind of : SlotKind) (ms : List Queued) → AreOfKind kind ms → AreOfKind kind (first_zeroed of ms)
zeroed_kind kind of [] is = tt
zeroed_kind kind of (m ∷ ms) is =
    elim (cases_Bool (is_to_zero of m)) [
      | inl e ↦ rw e (ap (λ (n : SlotName). n.kind) (name_by m.by_hand m) ∙ is.0, is.1)
      | inr e ↦ rw e (is.0, zeroed_kind kind of ms is.1)
    ]

pub zeroed_listed : (kind of : SlotKind) (old new : QueuedList) → new ≡ record old { items = first_zeroed of old.items } → IsNoMore kind old new
zeroed_listed kind of old new now =
    let items : new.items ≡ first_zeroed of old.items = ap (λ (y : QueuedList). y.items) now in
    record {
      only = λ is. subst (AreOfKind kind) (sym items) (zeroed_kind kind of old.items is);
      long = omega (arith, ap (λ (l : List Queued). length l) items, zeroed_long of old.items);
      room = ap (λ (y : QueuedList). y.room) now;
    }

pub zeroed_memory : (m t s new : QueuedList) → AreKindLists m t s → new ≡ record m { items = first_zeroed of_slot.Memory m.items } → all_slots new t s ≡ record { items = first_zeroed of_slot.Memory (m.items ++ (t.items ++ s.items)); room = m.room }
zeroed_memory m t s new is now = ap (λ (y : QueuedList). all_slots y t s) now ∙ ap (λ (l : List Queued). record { items = l; room = m.room }) (sym (memory_zeroed m.items t.items s.items (kinds_of m t s is)).1)

pub zeroed_table : (m t s new : QueuedList) → AreKindLists m t s → new ≡ record t { items = first_zeroed of_slot.Table t.items } → all_slots m new s ≡ record { items = first_zeroed of_slot.Table (m.items ++ (t.items ++ s.items)); room = m.room }
zeroed_table m t s new is now = ap (λ (y : QueuedList). all_slots m y s) now ∙ ap (λ (l : List Queued). record { items = l; room = m.room }) (sym (table_zeroed m.items t.items s.items (kinds_of m t s is)).1)

pub zeroed_stack : (m t s new : QueuedList) → AreKindLists m t s → new ≡ record s { items = first_zeroed of_slot.Stack s.items } → all_slots m t new ≡ record { items = first_zeroed of_slot.Stack (m.items ++ (t.items ++ s.items)); room = m.room }
zeroed_stack m t s new is now = ap (λ (y : QueuedList). all_slots m t y) now ∙ ap (λ (l : List Queued). record { items = l; room = m.room }) (sym (stack_zeroed m.items t.items s.items (kinds_of m t s is)).1)
