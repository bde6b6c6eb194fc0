-- `kinds::kind` meets its contract. Assumes nothing.
use mathlib.Core.Path.{refl}
use mathlib.Core.List.{List, [], ◌∷◌}
use Prim.Native.Nat.{ℕ}
use native.Mathlib.Omega.{arith}
use Rattle.list.specs.Listing.{row_at}
use Rattle.list_house.specs.House.{house}
use Rattle.list_house.specs.Kind.{house_kind}
use Rattle.list_house.proofs.HouseKind.{kind_past}
use Rattle.list_house.proofs.Arms.{at_keys, at_rest, at_last}
use Rattle.list_house.proofs.kinds.kind.Goals as goal

-- the keys of the arms, the last arm's first
abbrev keys : List (List ℕ)
keys =
    (5 ∷ []) ∷
    (22 ∷ 30 ∷ 32 ∷ []) ∷
    (19 ∷ 24 ∷ 47 ∷ []) ∷
    (8 ∷ []) ∷
    (26 ∷ []) ∷
    (18 ∷ 20 ∷ 25 ∷ 28 ∷ 48 ∷ []) ∷
    (14 ∷ []) ∷
    (11 ∷ 55 ∷ []) ∷
    (13 ∷ 36 ∷ 41 ∷ 52 ∷ 57 ∷ []) ∷
    (4 ∷ 7 ∷ 33 ∷ []) ∷
    (10 ∷ []) ∷
    []

pub returns-in-10 : goal.returns-in-10
unfolding row_at house
returns-in-10 c = at_keys house_kind 1 (10 ∷ []) refl _ c.in-10.is

pub returns-in-11 : goal.returns-in-11
unfolding row_at house
returns-in-11 c = at_keys house_kind 4 (11 ∷ 55 ∷ []) refl _ c.in-11.is

pub returns-in-14 : goal.returns-in-14
unfolding row_at house
returns-in-14 c = at_keys house_kind 5 (14 ∷ []) refl _ c.in-14.is

pub returns-in-18 : goal.returns-in-18
unfolding row_at house
returns-in-18 c = at_keys house_kind 6 (18 ∷ 20 ∷ 25 ∷ 28 ∷ 48 ∷ []) refl _ c.in-18.is

pub returns-in-26 : goal.returns-in-26
unfolding row_at house
returns-in-26 c = at_keys house_kind 7 (26 ∷ []) refl _ c.in-26.is

pub returns-in-8 : goal.returns-in-8
unfolding row_at house
returns-in-8 c = at_keys house_kind 8 (8 ∷ []) refl _ c.in-8.is

pub returns-in-19 : goal.returns-in-19
unfolding row_at house
returns-in-19 c = at_keys house_kind 9 (19 ∷ 24 ∷ 47 ∷ []) refl _ c.in-19.is

pub returns-in-22 : goal.returns-in-22
unfolding row_at house
returns-in-22 c = at_keys house_kind 10 (22 ∷ 30 ∷ 32 ∷ []) refl _ c.in-22.is

pub returns-in-5 : goal.returns-in-5
unfolding row_at house
returns-in-5 c = at_keys house_kind 11 (5 ∷ []) refl _ c.in-5.is

pub returns-in_default : goal.returns-in_default
unfolding row_at house
returns-in_default c = at_rest house_kind 0 keys 0 38 refl _ (omega arith) (omega arith) c.in_default.in_default-own.rest

pub returns-in_default-2 : goal.returns-in_default-2
unfolding row_at house
returns-in_default-2 c = at_rest house_kind 0 keys 40 5 refl _ (omega arith) (omega arith) c.in_default.in_default-own.rest

pub returns-in_default-3 : goal.returns-in_default-3
unfolding row_at house
returns-in_default-3 c = at_last house_kind 0 keys 47 11 refl (kind_past 58 refl) _ (omega arith) c.in_default.in_default-own.rest

pub returns-in-13 : goal.returns-in-13
unfolding row_at house
returns-in-13 c = at_keys house_kind 3 (13 ∷ 36 ∷ 41 ∷ 52 ∷ 57 ∷ []) refl _ c.in-13.in-13-own.keys3

pub returns-in-13-2 : goal.returns-in-13-2
unfolding row_at house
returns-in-13-2 c = at_rest house_kind 3 keys 38 2 refl _ (omega arith) (omega arith) c.in-13.in_default-own.rest

pub returns-in-4 : goal.returns-in-4
unfolding row_at house
returns-in-4 c = at_keys house_kind 2 (4 ∷ 7 ∷ 33 ∷ []) refl _ c.in-4.in-4-own.keys2

pub returns-in-4-2 : goal.returns-in-4-2
unfolding row_at house
returns-in-4-2 c = at_rest house_kind 2 keys 45 2 refl _ (omega arith) (omega arith) c.in-4.in_default-own.rest
