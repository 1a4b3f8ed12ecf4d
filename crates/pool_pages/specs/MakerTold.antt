-- What a maker of regions tells of itself, and the regions that it makes.
use Rattle.std.specs.Prelude.{ℕ, ◌+◌, ◌-◌, ◌^◌, ◌/◌, ◌==◌, List, [], ◌∷◌, ◌++◌, fold, min, replicate, Bool, true, false, if◌then◌else◌, Option, Some, None}
use Rattle.std.specs.List.{list_any, filter_map}
use Rattle.pool_types.specs.Count.{Count}
use Rattle.pool_pages.specs.Contents.{Contents}
use Rattle.pool_pages.specs.Told.{Told, joined_plan}
use Rattle.pool_pages.specs.declared.pages.PageCalls.{PageCalls}
use Rattle.pool_pages.specs.declared.pages.RegionName.{RegionName}
use Rattle.pool_pages.specs.declared.pages.RegionName.TheVariants.{Memory, Table, Stack, OnDemand}
use Rattle.pool_types.specs.declared.decommit_behavior.DecommitBehavior.{DecommitBehavior}

-- a call that fails: call n on a region, its making being call 0, or each making of an image of a module
pub data Planned : Type 0 where
  on_region : RegionName → ℕ → Planned
  on_images : ℕ → Planned

-- Its page. Whether its regions tell what they hold. Which makings and calls on its regions fail, where it tells
-- that; where it doesn't, the plans that stand one behind the other, as far as they are told. The list that it has
-- itself, whatever stands behind it, and how often a making by the maker behind it failed: one with none behind it has
-- an empty list, and its own count. The number of its next region on demand, and how often a making failed.
pub record MakerTold : Type 0 where
  pub page : ℕ
  pub tells : Bool
  pub plan : Option (List Planned)
  pub layers : List (List Planned)
  pub listed : List Planned
  pub behind : ℕ
  pub next : ℕ
  pub faults : ℕ

-- The two names are of one region.
abbrev pub same_name : RegionName → RegionName → Bool
same_name (Memory m) (Memory n) = m == n
same_name (Table m) (Table n) = m == n
same_name (Stack m) (Stack n) = m == n
same_name (OnDemand m) (OnDemand n) = m == n
same_name _ _ = false

-- the call that the plan's entry lists for this region
abbrev pub call_of : RegionName → Planned → Option ℕ
call_of name (on_region of call) = if same_name name of then Some call else None
call_of name (on_images m) = None

-- the numbers of the calls on this region that fail
abbrev pub calls_of : RegionName → List Planned → List ℕ
calls_of name plan = filter_map (call_of name) plan

-- what a region of this name tells of its calls that fail, by plans that stand one behind the other
abbrev pub layered_plan : RegionName → List (List Planned) → Option (List ℕ)
layered_plan name [] = None
layered_plan name (last ∷ before) = fold (λ plan layer. joined_plan plan (calls_of name layer)) (Some (calls_of name last)) before

-- What a region of this name tells of its calls that fail: its part of the maker's plan where that is told, else of the
-- plans behind one another.
abbrev pub part_of : RegionName → Option (List Planned) → List (List Planned) → Option (List ℕ)
part_of name (Some plan) layers = Some (calls_of name plan)
part_of name None layers = layered_plan name layers

-- The numbers of the calls that fail on the region of this name, where the maker tells its plan.
abbrev pub plan_for : RegionName → MakerTold → Option (List ℕ)
plan_for name maker = part_of name maker.plan maker.layers

-- the making of this region fails
abbrev pub fails_making : RegionName → List Planned → Bool
fails_making name plan = list_any (λ call. call == 0) (calls_of name plan)

-- the entry lists the images of this module
abbrev pub is_of_images : ℕ → Planned → Bool
is_of_images id (on_region of call) = false
is_of_images id (on_images m) = id == m

-- each making of an image of this module fails
abbrev pub fails_images : ℕ → List Planned → Bool
fails_images id plan = list_any (is_of_images id) plan

-- no call was made yet
abbrev pub no_calls : PageCalls
no_calls = record { expose = 0; hide = 0; map_image = 0; remap_zeros = 0; erase = 0; recolour = 0; decommit = 0 }

-- pages of zeros, of which those below a place can be reached
abbrev pub fresh : ℕ → ℕ → ℕ → Contents
fresh page accessible len = record {
  page = page;
  bytes = replicate len 0;
  origin = replicate len 0;
  accessible = replicate (accessible / page) true ++ replicate (len / page - accessible / page) false;
  dirty = replicate (len / page) false;
  colour = replicate (len / page) 0;
}

-- What a region tells as it is made: zeros, so much within reach, no page dirty, no calls, and its part of
-- the maker's plan.
abbrev pub made_region : RegionName → DecommitBehavior → Count → Count → MakerTold → Told
made_region name behaviour accessible len maker = record {
  name = name;
  page = len.page;
  len = len.bytes;
  behaviour = behaviour;
  contents = if maker.tells then Some (fresh len.page accessible.bytes len.bytes) else None;
  marks = replicate (len.bytes / len.page) false;
  plan = plan_for name maker;
  made = 0;
  calls = no_calls;
  faults = 0;
}

-- the number of the next region on demand, once this one was asked for
abbrev pub next_after : RegionName → ℕ → ℕ
next_after (Memory n) next = next
next_after (Table n) next = next
next_after (Stack n) next = next
next_after (OnDemand n) next = min (next + 1) (2 ^ 32 - 1)
