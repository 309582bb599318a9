-- Where one message alone is not settled, it tells as much as all.
use Rattle.std.proofs.Common.{◌≡◌, ℕ, zero, suc, ◌+◌, Bool, true, cond, not, List, [], ◌∷◌, length, take, get_or, Some, None, refl, ap, sym}
use Rattle.std.proofs.Common.{◌∙◌, Contains, arith}
use Rattle.std.specs.List.{list_all, find}
use Rattle.std.proofs.lemmas.Bool.{and_parts, not-true}
use Rattle.cast_types.specs.declared.names.Proc.{Proc}
use Rattle.cast_ready.specs.declared.row.Row.{Row}
use Rattle.cast_ready.specs.declared.offered.Offered.{Offered}
use Rattle.cast_ready.specs.Rows.{AreLow}
use Rattle.cast_types.specs.Names.{proc_eq}
use Rattle.cast_delay.specs.declared.floor.Floor.{Floor}
use Rattle.cast_delay.specs.Floors.{IsFloor, groups_of}
use Rattle.cast_delay.specs.Queue.{row_of}
use Rattle.cast_delay.proofs.MemberLemmas.{found_member}
use Rattle.cast_delay.proofs.Floors.{floor_low}

-- the last item is found where it passes, and none before it does
pub last_found : {X : Type 0} (t : X → Bool) (xs : List X) (n : ℕ) (x : X) → length xs ≡ n + 1 → x ≡ get_or xs n x →
    list_all (λ y. not (t y)) (take n xs) ≡ true → find t xs ≡ cond (t x) (Some x) None
last_found t [] n x one at none = absurd (omega (arith, one))
last_found t (y ∷ []) zero x one at none = ap (λ z. cond (t z) (Some z) None) (sym at)
last_found t (y ∷ z ∷ xs) zero x one at none = absurd (omega (arith, one))
last_found t (y ∷ xs) (suc n) x one at none =
    let parts = and_parts (not (t y)) (list_all (λ z. not (t z)) (take n xs)) none in
    ap (λ b. cond b (Some y) (find t xs)) (not-true (t y) parts.0) ∙ last_found t xs n x (omega (arith, one)) at parts.1

-- what the floor has of each message is low for the row of a process
pub row_low : (rows : List Row) (offered : List Offered) (floor : Floor) → IsFloor rows offered floor → (p : Proc) (row : Row) →
    row_of rows p ≡ Some row → (o : Offered) → Contains offered o → AreLow row o.times (groups_of floor o.key)
row_low rows offered floor is p row at o has =
    floor_low rows offered floor is row (found_member (λ (r : Row). proc_eq r.process p) rows row at).0 o has o.key refl
