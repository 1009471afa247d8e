-- The acting cases of the items of arrays.
use Rattle.std.proofs.Common.{◌≡◌, ℕ, suc, ◌+◌, ◌<◌, ◌≤◌, ℤ, pos, negsuc, Bool, true, false, List, ◌∷◌, length, Some}
use Rattle.std.proofs.Common.{refl, sym, ap, ◌∙◌, arith, slice_get, slice_set, nat_eq, nat_lt, unsigned_abs}
use Rattle.std.proofs.Common.{if◌then◌else◌}
use Rattle.std.proofs.lemmas.Bool.Decides.{nat_tests}
use Rattle.ls_code.specs.Limits.{most_cells}
use Rattle.ls_events.specs.declared.kind.Kind.TheVariants.{ArrayIndexOutOfBounds}
use Rattle.ls_events.specs.declared.value.Value.{Value}
use Rattle.ls_events.specs.declared.value.ValueType.{ValueType}
use Rattle.ls_events.specs.declared.value.ValueType.TheVariants as type
use Rattle.ls_events.specs.declared.action.Action.{Action}
use Rattle.ls_events.specs.declared.action.Action.TheVariants.{ReadItem, WriteItem}
use Rattle.ls_events.specs.declared.action.Answer.TheVariants.{Done, Gives, Fails}
use Rattle.ls_checked.specs.CheckedTree.{Class}
use Rattle.ls_meaning.specs.declared.sort.Sort.{Sort}
use Rattle.ls_meaning.specs.declared.sort.Sort.TheVariants.{NoValue, ValueOf}
use Rattle.ls_meaning.specs.Store.{Thing, Object, LockOf, Markable, Array, Store}
use Rattle.ls_meaning.specs.Effect.{Effect, Change, Leaves, on_thing, put_back, with_item}
use Rattle.ls_code.specs.Cells.{Cells, cell_at, on_cell}
use Rattle.ls_code.specs.Cells as machine
use Rattle.ls_preservation.specs.InWords.{written}
use Rattle.ls_preservation.specs.Sorts.{HasType}
use Rattle.ls_preservation.proofs.Cells.{cells_of, get_listed, set_listed, item_same, item_other}
use Rattle.ls_preservation.proofs.Effects.{ThingHas, renaming, Holds, Agrees}
use Rattle.ls_preservation.proofs.FieldCases.{on_is, back_is}
use Rattle.ls_preservation.proofs.FieldCases as cases

module _ (classes : List Class) (named : List ValueType) (sizes : List ℕ) (room : ℕ) (small : room ≤ most_cells)
    (σ : List ValueType) (st : Store) (c : Cells) (holds : Holds classes named sizes room σ st c) where
  open cases.laws classes named sizes room σ st c holds use {agree_at, unchanged, one_cell, cell_is, write_is}

  abbrev ρ : ℕ → ℕ
  ρ = renaming (length named) st

  abbrev Agree : Action Value → Sort → Effect → machine.Effect → Type 0
  Agree a s e d = Agrees classes named sizes room σ st a s e d

  item_cell : (k size : ℕ) (items : ℕ → Value) →
      k < size →
      slice_get (cells_of ρ (Array size items)) (k + 1) ≡ Some (written ρ (items k))
  item_cell k size items h =
      let e : k + 1 ≡ suc k = omega arith in
      ap (slice_get (cells_of ρ (Array size items))) e ∙ get_listed size (λ i. written ρ (items i)) k h

  item_set : (k size : ℕ) (items : ℕ → Value) (v : Value) →
      k < size →
      cells_of ρ (Array size (with_item items k v)) ≡ slice_set (cells_of ρ (Array size items)) (k + 1) (written ρ v)
  item_set k size items v h =
      let e : k + 1 ≡ suc k = omega arith in
      ap (λ l. size ∷ l) (set_listed size (λ i. written ρ (items i)) (λ i. written ρ (with_item items k v i)) k
      (written ρ v) (ap (written ρ) (item_same items k v)) (λ j d. ap (written ρ) (item_other items k v j d)) h)
      ∙ ap (λ i. slice_set (cells_of ρ (Array size items)) i (written ρ v)) (sym e)

  abbrev reads_item : ℤ → ℕ → (ℕ → Value) → Bool → Change
  reads_item i size items b = if b then Leaves (Array size items) (Gives (items (unsigned_abs i))) else
      Leaves (Array size items) (Fails ArrayIndexOutOfBounds)

  item_test : (n k size : ℕ) (items : ℕ → Value) →
      slice_get st.things n ≡ Some (Array size items) →
      ((i : ℕ) → i < size → HasType σ (items i) type.Boolean) →
      (b : Bool) →
      nat_lt k size ≡ b →
      Agree (ReadItem (suc n) (pos k)) (ValueOf type.Boolean) (put_back st (suc n) (reads_item (pos k) size items b))
      (if b then machine.read_effect c (ρ (suc n)) (k + 1) else machine.Answers c (Fails ArrayIndexOutOfBounds))
  item_test n k size items at has true eb =
      let h : k < size = grind (arith, nat_tests) in
      agree_at (ReadItem (suc n) (pos k)) (ValueOf type.Boolean) _ _ _ _
      (back_is st n (Array size items) (Gives (items k)))
      (ap (λ z. on_cell z (λ word. machine.Answers c (Gives word)))
      (cell_is n (k + 1) (written ρ (items k)) (Array size items) at (omega arith) (item_cell k size items h)))
      (unchanged (ReadItem (suc n) (pos k)) (ValueOf type.Boolean) n (Array size items) (Gives (items k))
      (Gives (written ρ (items k))) at (has k h) refl)
  item_test n k size items at has false eb =
      agree_at (ReadItem (suc n) (pos k)) (ValueOf type.Boolean) _ _ _ (machine.Answers c (Fails ArrayIndexOutOfBounds))
      (back_is st n (Array size items) (Fails ArrayIndexOutOfBounds)) refl
      (unchanged (ReadItem (suc n) (pos k)) (ValueOf type.Boolean) n (Array size items) (Fails ArrayIndexOutOfBounds)
      (Fails ArrayIndexOutOfBounds) at refl refl)

  size_cell : (n size : ℕ) (items : ℕ → Value) →
      slice_get st.things n ≡ Some (Array size items) →
      cell_at c (ρ (suc n)) 0 ≡ Some size
  size_cell n size items at = cell_is n 0 size (Array size items) at (omega arith) refl

  -- a read of an item
  pub item_case : (t n : ℕ) (i : ℤ) (o : Thing) →
      slice_get st.things n ≡ Some o →
      ThingHas classes σ o type.BooleanArray →
      Agree (ReadItem (suc n) i) (ValueOf type.Boolean) (on_thing st (suc n) t (ReadItem (suc n) i))
      (machine.effect c t (ReadItem (ρ (suc n)) i))
  item_case t n (pos k) (Array size items) at has =
      agree_at (ReadItem (suc n) (pos k)) (ValueOf type.Boolean) _ _ _ _
      (on_is st n t (ReadItem (suc n) (pos k)) (Array size items) at)
      (ap (λ z. on_cell z (λ count. if machine.in_range (pos k) count then
      machine.read_effect c (ρ (suc n)) (k + 1) else machine.Answers c (Fails ArrayIndexOutOfBounds)))
      (size_cell n size items at))
      (item_test n k size items at has (nat_lt k size) refl)
  item_case t n (negsuc k) (Array size items) at has =
      agree_at (ReadItem (suc n) (negsuc k)) (ValueOf type.Boolean) _ _ _ _
      (on_is st n t (ReadItem (suc n) (negsuc k)) (Array size items) at ∙
      back_is st n (Array size items) (Fails ArrayIndexOutOfBounds))
      (ap (λ z. on_cell z (λ count. if machine.in_range (negsuc k) count then
      machine.read_effect c (ρ (suc n)) (unsigned_abs (negsuc k) + 1) else
      machine.Answers c (Fails ArrayIndexOutOfBounds))) (size_cell n size items at))
      (unchanged (ReadItem (suc n) (negsuc k)) (ValueOf type.Boolean) n (Array size items) (Fails ArrayIndexOutOfBounds)
      (Fails ArrayIndexOutOfBounds) at refl refl)
  item_case t n i (Object _ vs) at has = absurd has
  item_case t n i (LockOf _) at has = absurd has
  item_case t n i (Markable v) at has = absurd has

  abbrev writes_item : ℤ → Value → ℕ → (ℕ → Value) → Bool → Change
  writes_item i v size items b = if b then Leaves (Array size (with_item items (unsigned_abs i) v)) Done else
      Leaves (Array size items) (Fails ArrayIndexOutOfBounds)

  item_typed : (items : ℕ → Value) (size k : ℕ) (v : Value) →
      ((i : ℕ) → i < size → HasType σ (items i) type.Boolean) →
      HasType σ v type.Boolean →
      (i : ℕ) →
      i < size →
      HasType σ (with_item items k v i) type.Boolean
  item_typed items size k v has hv i h = by_test (nat_eq i k)
    where
      by_test : (b : Bool) → HasType σ (if b then v else items i) type.Boolean
      by_test true = hv
      by_test false = has i h

  set_test : (n k size : ℕ) (items : ℕ → Value) (v : Value) →
      slice_get σ n ≡ Some type.BooleanArray →
      slice_get st.things n ≡ Some (Array size items) →
      ((i : ℕ) → i < size → HasType σ (items i) type.Boolean) →
      HasType σ v type.Boolean →
      (b : Bool) →
      nat_lt k size ≡ b →
      Agree (WriteItem (suc n) (pos k) v) NoValue (put_back st (suc n) (writes_item (pos k) v size items b))
      (if b then machine.written c (ρ (suc n)) (k + 1) (written ρ v) Done else
      machine.Answers c (Fails ArrayIndexOutOfBounds))
  set_test n k size items v sort at has hv true eb =
      let h : k < size = grind (arith, nat_tests) in
      agree_at (WriteItem (suc n) (pos k) v) NoValue _ _ _ _
      (back_is st n (Array size (with_item items k v)) Done)
      (write_is n (k + 1) (written ρ v) (Array size items) Done at (omega arith))
      (one_cell n (k + 1) (written ρ v) (Array size items) (Array size (with_item items k v)) type.BooleanArray at sort
      (item_typed items size k v has hv) refl (omega arith) (item_set k size items v h)
      (WriteItem (suc n) (pos k) v) NoValue Done Done refl refl)
  set_test n k size items v sort at has hv false eb =
      agree_at (WriteItem (suc n) (pos k) v) NoValue _ _ _ (machine.Answers c (Fails ArrayIndexOutOfBounds))
      (back_is st n (Array size items) (Fails ArrayIndexOutOfBounds)) refl
      (unchanged (WriteItem (suc n) (pos k) v) NoValue n (Array size items) (Fails ArrayIndexOutOfBounds)
      (Fails ArrayIndexOutOfBounds) at refl refl)

  -- a write of an item
  pub set_item_case : (t n : ℕ) (i : ℤ) (v : Value) →
      slice_get σ n ≡ Some type.BooleanArray →
      HasType σ v type.Boolean →
      (o : Thing) →
      slice_get st.things n ≡ Some o →
      ThingHas classes σ o type.BooleanArray →
      Agree (WriteItem (suc n) i v) NoValue (on_thing st (suc n) t (WriteItem (suc n) i v))
      (machine.effect c t (WriteItem (ρ (suc n)) i (written ρ v)))
  set_item_case t n (pos k) v sort hv (Array size items) at has =
      agree_at (WriteItem (suc n) (pos k) v) NoValue _ _ _ _
      (on_is st n t (WriteItem (suc n) (pos k) v) (Array size items) at)
      (ap (λ z. on_cell z (λ count. if machine.in_range (pos k) count then
      machine.written c (ρ (suc n)) (k + 1) (written ρ v) Done else
      machine.Answers c (Fails ArrayIndexOutOfBounds))) (size_cell n size items at))
      (set_test n k size items v sort at has hv (nat_lt k size) refl)
  set_item_case t n (negsuc k) v sort hv (Array size items) at has =
      agree_at (WriteItem (suc n) (negsuc k) v) NoValue _ _ _ _
      (on_is st n t (WriteItem (suc n) (negsuc k) v) (Array size items) at ∙
      back_is st n (Array size items) (Fails ArrayIndexOutOfBounds))
      (ap (λ z. on_cell z (λ count. if machine.in_range (negsuc k) count then
      machine.written c (ρ (suc n)) (unsigned_abs (negsuc k) + 1) (written ρ v) Done else
      machine.Answers c (Fails ArrayIndexOutOfBounds))) (size_cell n size items at))
      (unchanged (WriteItem (suc n) (negsuc k) v) NoValue n (Array size items) (Fails ArrayIndexOutOfBounds)
      (Fails ArrayIndexOutOfBounds) at refl refl)
  set_item_case t n i v sort hv (Object _ vs) at has = absurd has
  set_item_case t n i v sort hv (LockOf _) at has = absurd has
  set_item_case t n i v sort hv (Markable w) at has = absurd has
