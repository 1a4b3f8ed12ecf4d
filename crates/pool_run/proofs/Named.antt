-- A command on an object of a live grant: what it leaves of the grants, and what it is as the party sees it.
use Rattle.std.proofs.Common.{◌≡◌, ℕ, List, map, Option, Some, None, ◌⊎◌, inl, inr, refl, sym, ap, ◌∙◌, subst, option_map, slice_get, slice_set, slice_index_or}
use Rattle.pool_run.proofs.Imports.{option_and_then, map-set, set-get_or, set-set, slice_get-map}
use Rattle.pool_run.specs.Objects.{Objects, MovesNamed, object_at, with_object, MovesObject}
use Rattle.pool_run.specs.declared.reply.Reply.{Reply}
use Rattle.pool_run.specs.declared.reply.Reply.TheVariants.{Refused}
use Rattle.pool_run.specs.declared.reply.Refusal.TheVariants.{NoSuchGrant}
use Rattle.pool_run.proofs.Grants.{mapped_at}

-- what is named isn't there, or it is
named_none : {X S : Type 0} (Move : X → X → Reply → Type 0) (o : Option X) (put : X → S → S) (old new : S) (reply : Reply) → o ≡ None → (reply ≡ Refused NoSuchGrant) × (new ≡ old) → MovesNamed Move o put old reply new
named_none {X = X} Move o put old new reply none is = let M : Option X → Type 0 = λ x. MovesNamed Move x put old reply new in subst M (sym none) is

named_some : {X S : Type 0} (Move : X → X → Reply → Type 0) (o : Option X) (x : X) (put : X → S → S) (old new : S) (reply : Reply) → o ≡ Some x → (moved : X) × Move x moved reply × (new ≡ put moved old) → MovesNamed Move o put old reply new
named_some {X = X} Move o x put old new reply some is = let M : Option X → Type 0 = λ y. MovesNamed Move y put old reply new in subst M (sym some) is

-- so of what has that as a part
pub named_under : {X S T : Type 0} (Move : X → X → Reply → Type 0) (o : Option X) (f : S → T) (put : X → S → S) (put_there : X → T → T) → ((x : X) (s : S) → f (put x s) ≡ put_there x (f s)) → (old new : S) (reply : Reply) → MovesNamed Move o put old reply new → MovesNamed Move o put_there (f old) reply (f new)
named_under Move None f put put_there same old new reply is = (is.0, ap f is.1)
named_under Move (Some x) f put put_there same old new reply is = (is.0, is.1, ap f is.2 ∙ same is.0 old)

-- a command on object k of the live grant of command `of`
module _ {G L : Type 0} (leases : Objects G L) (Move : L → L → Reply → Type 0) (of k : ℕ) where
  -- the object in a grant
  abbrev named_in : Option G → Option L
  named_in x = option_and_then (λ g. slice_get (leases.in_grant g) k) x

  -- it isn't there, and nothing changes
  pub record NamesNone (live new : List (Option G)) (reply : Reply) : Type 0 where
    pub none : object_at leases of k live ≡ None
    pub refused : reply ≡ Refused NoSuchGrant
    pub same : new ≡ live

  -- or another is in its place
  pub record IsMoved (live new : List (Option G)) (reply : Reply) : Type 0 where
    pub grant : G
    pub old : L
    pub changed : L
    pub granted : slice_index_or live of None ≡ Some grant
    pub there : slice_get (leases.in_grant grant) k ≡ Some old
    pub move : Move old changed reply
    pub is : new ≡ slice_set live of (Some (leases.put_in k changed grant))

  moved_by : (live new : List (Option G)) (reply : Reply) (x : Option G) (y : Option L) → slice_index_or live of None ≡ x → named_in x ≡ y → MovesNamed Move y (with_object leases of k) live reply new → NamesNone live new reply ⊎ IsMoved live new reply
  moved_by live new reply x None has there is = inl (record { none = ap named_in has ∙ there; refused = is.0; same = is.1 })
  moved_by live new reply None (Some l) has there is = absurd cc
  moved_by live new reply (Some g) (Some l) has there is =
      inr (record { grant = g; old = l; changed = is.0; granted = has; there = there; move = is.1; is = is.2 ∙ ap (λ (o : Option G). slice_set live of (option_map (leases.put_in k is.0) o)) has })

  pub moved : (live new : List (Option G)) (reply : Reply) → MovesObject leases Move of k live reply new → NamesNone live new reply ⊎ IsMoved live new reply
  moved live new reply is = moved_by live new reply (slice_index_or live of None) (object_at leases of k live) refl refl is

  -- It is so with a grant that is taken out of its place, and put back.
  taken_by : (live empty new : List (Option G)) (reply : Reply) (grant : G) (y : Option L) → slice_index_or live of None ≡ Some grant → ((g : G) → slice_set empty of (Some g) ≡ slice_set live of (Some g)) → MovesNamed Move y (λ l at. slice_set at of (Some (leases.put_in k l grant))) (slice_set empty of (Some grant)) reply new → MovesNamed Move y (with_object leases of k) live reply new
  taken_by live empty new reply grant None has back is = (is.0, is.1 ∙ back grant ∙ ap (slice_set live of) (sym has) ∙ set-get_or live of None)
  taken_by live empty new reply grant (Some l) has back is =
      let changed : G = leases.put_in k is.0 grant in
      (is.0, is.1, is.2 ∙ set-set empty of (Some grant) (Some changed) ∙ back changed ∙ ap (λ (o : Option G). slice_set live of (option_map (leases.put_in k is.0) o)) (sym has))

  pub taken_moved : (live empty new : List (Option G)) (reply : Reply) (grant : G) → slice_index_or live of None ≡ Some grant → empty ≡ slice_set live of None → MovesNamed Move (slice_get (leases.in_grant grant) k) (λ l at. slice_set at of (Some (leases.put_in k l grant))) (slice_set empty of (Some grant)) reply new → MovesObject leases Move of k live reply new
  taken_moved live empty new reply grant has taken is =
      let back : (g : G) → slice_set empty of (Some g) ≡ slice_set live of (Some g) = λ g. ap (λ (xs : List (Option G)). slice_set xs of (Some g)) taken ∙ set-set live of None (Some g) in
      let M : Option G → Type 0 = λ x. MovesNamed Move (named_in x) (with_object leases of k) live reply new in
      subst M (sym has) (taken_by live empty new reply grant (slice_get (leases.in_grant grant) k) has back is)

  -- Once an object of it moved, it is put into its place.
  back_by : (live new : List (Option G)) (reply : Reply) (grant changed : G) (y : Option L) → new ≡ slice_set live of (Some changed) → MovesNamed Move y (leases.put_in k) grant reply changed → MovesNamed Move y (λ l at. slice_set at of (Some (leases.put_in k l grant))) (slice_set live of (Some grant)) reply new
  back_by live new reply grant changed None put is = (is.0, put ∙ ap (λ (g : G). slice_set live of (Some g)) is.1)
  back_by live new reply grant changed (Some l) put is =
      (is.0, is.1, put ∙ ap (λ (g : G). slice_set live of (Some g)) is.2 ∙ sym (set-set live of (Some grant) (Some (leases.put_in k is.0 grant))))

  pub put_back : (live new : List (Option G)) (reply : Reply) (grant changed : G) → new ≡ slice_set live of (Some changed) → MovesNamed Move (slice_get (leases.in_grant grant) k) (leases.put_in k) grant reply changed → MovesNamed Move (slice_get (leases.in_grant grant) k) (λ l at. slice_set at of (Some (leases.put_in k l grant))) (slice_set live of (Some grant)) reply new
  put_back live new reply grant changed put is = back_by live new reply grant changed (slice_get (leases.in_grant grant) k) put is

-- The party sees the objects that a grant has, and a change of one as a change of what it sees.
pub record AreSeen {G L H X : Type 0} (leases : Objects G L) (objects : Objects H X) (grant_seen : G → H) (seen : L → X) : Type 0 where
  pub same : (g : G) → objects.in_grant (grant_seen g) ≡ map seen (leases.in_grant g)
  pub changed : (k : ℕ) (l : L) (g : G) → grant_seen (leases.put_in k l g) ≡ objects.put_in k (seen l) (grant_seen g)

module _ {G L H X : Type 0} (leases : Objects G L) (objects : Objects H X) (grant_seen : G → H) (seen : L → X) (are : AreSeen leases objects grant_seen seen) (Move : L → L → Reply → Type 0) (Sees : X → X → Reply → Type 0) (of k : ℕ) where
  abbrev all_seen : List (Option G) → List (Option H)
  all_seen live = map (option_map grant_seen) live

  seen_in : (x : Option G) → option_and_then (λ h. slice_get (objects.in_grant h) k) (option_map grant_seen x) ≡ option_map seen (option_and_then (λ g. slice_get (leases.in_grant g) k) x)
  seen_in None = refl
  seen_in (Some g) = ap (λ (xs : List X). slice_get xs k) (are.same g) ∙ slice_get-map seen (leases.in_grant g) k

  seen_at : (live : List (Option G)) → object_at objects of k (all_seen live) ≡ option_map seen (object_at leases of k live)
  seen_at live = ap (λ (o : Option H). option_and_then (λ h. slice_get (objects.in_grant h) k) o) (mapped_at grant_seen live of) ∙ seen_in (slice_index_or live of None)

  -- Where the party sees none, there is none.
  pub none_seen : (live : List (Option G)) → object_at objects of k (all_seen live) ≡ None → object_at leases of k live ≡ None
  none_seen live none = not_mapped (object_at leases of k live) (sym (seen_at live) ∙ none)
    where
      not_mapped : (o : Option L) → option_map seen o ≡ None → o ≡ None
      not_mapped None is = refl
      not_mapped (Some l) is = absurd cc

  -- A command on an object is one on what the party sees of it, where a move of the object is.
  pub on_seen : (live new : List (Option G)) (reply : Reply) → ((m : IsMoved leases Move of k live new reply) → Sees (seen m.old) (seen m.changed) reply) → MovesObject leases Move of k live reply new → MovesObject objects Sees of k (all_seen live) reply (all_seen new)
  on_seen live new reply sees is =
      elim (moved leases Move of k live new reply is) [
        | inl n ↦
            named_none Sees (object_at objects of k (all_seen live)) (with_object objects of k) (all_seen live) (all_seen new) reply (seen_at live ∙ ap (option_map seen) n.none) (n.refused, ap all_seen n.same)
        | inr m ↦
            let there : object_at leases of k live ≡ Some m.old = ap (λ (o : Option G). option_and_then (λ g. slice_get (leases.in_grant g) k) o) m.granted ∙ m.there in
            let grant : slice_index_or (all_seen live) of None ≡ Some (grant_seen m.grant) = mapped_at grant_seen live of ∙ ap (option_map grant_seen) m.granted in
            let put : all_seen new ≡ with_object objects of k (seen m.changed) (all_seen live) =
            ap all_seen m.is ∙ map-set (option_map grant_seen) live of (Some (leases.put_in k m.changed m.grant)) ∙ ap (λ (h : H). slice_set (all_seen live) of (Some h)) (are.changed k m.changed m.grant)
            ∙ ap (λ (o : Option H). slice_set (all_seen live) of (option_map (objects.put_in k (seen m.changed)) o)) (sym grant) in
            named_some Sees (object_at objects of k (all_seen live)) (seen m.old) (with_object objects of k) (all_seen live) (all_seen new) reply (seen_at live ∙ ap (option_map seen) there) (seen m.changed, sees m, put)
      ]
