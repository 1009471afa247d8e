-- What holds below a number, one more, and of the first entry that isn't calls.
use Rattle.std.proofs.Common.{◌≡◌, ◌⊎◌, ◌+◌, ◌<◌, ◌≤◌, inl, inr, ℕ, List, length, Some, None, arith, subst, sym, ◌∙◌}
use Rattle.std.specs.Prelude.{slice_get}
use Rattle.ls_class_programs.specs.Entries.{AreCalls, HasNoCall, IsNoCall, Text}
use Rattle.ls_class_programs.specs.declared.entry_fault.EntryFault.{EntryFault}
use Rattle.ls_class_programs.specs.declared.entry_fault.EntryFault.TheVariants as faults
use Rattle.ls_class_programs.specs.Written.{Entry, entries}
use Rattle.std.proofs.lemmas.Bool.{cases_lt}
use Rattle.std.proofs.lemmas.Option.{slice_get_past}

pub one_more : (P : ℕ → Type 0) (i : ℕ) → ((k : ℕ) → k < i → P k) → P i → (k : ℕ) → k < i + 1 → P k
one_more P i before here k within = by_place (cases_lt k i)
  where
    by_place : (k < i) ⊎ (i ≤ k) → P k
    by_place (inl less) = before k less
    by_place (inr past) =
        let same : i ≡ k = omega arith in subst P same here

some_is : {A : Type 0} {x y : A} → Some x ≡ Some y → x ≡ y
some_is h = cc

none_is : {A : Type 0} {x : A} → None ≡ Some x → ⊥
none_is h = cc

-- one item more
pub one_item : {A : Type 0} (P : A → Type 0) (xs : List A) (i : ℕ) (x : A) → slice_get xs i ≡ Some x → P x →
    ((k : ℕ) → k < i → (y : A) → slice_get xs k ≡ Some y → P y) →
    (k : ℕ) → k < i + 1 → (y : A) → slice_get xs k ≡ Some y → P y
one_item {A} P xs i x is here before =
    one_more (λ k. (y : A) → slice_get xs k ≡ Some y → P y) i before
    (λ y e. subst P (some_is (sym is ∙ e)) here)

-- all items
pub all_items : {A : Type 0} (P : A → Type 0) (xs : List A) (i : ℕ) → length xs ≤ i →
    ((k : ℕ) → k < i → (y : A) → slice_get xs k ≡ Some y → P y) → (k : ℕ) (y : A) → slice_get xs k ≡ Some y → P y
all_items P xs i all before k y e = by_place (cases_lt k i)
  where
    by_place : (k < i) ⊎ (i ≤ k) → P y
    by_place (inl less) = before k less y e
    by_place (inr past) =
        let over : length xs ≤ k = omega (arith, all) in
        absurd (none_is (sym (slice_get_past xs k over) ∙ e))

-- entries before one are calls, and that one isn't
pub no_call : (classes making : Text) (threads : ℕ) (menu : Text) (i : ℕ) (e : Entry) →
    slice_get (entries menu) i ≡ Some e →
    ((k : ℕ) → k < i → (y : Entry) → slice_get (entries menu) k ≡ Some y → AreCalls classes making threads y) →
    (f : EntryFault) → (f ≡ faults.Memory) ⊎ IsNoCall classes making threads e f →
    (f ≡ faults.Memory) ⊎ HasNoCall classes making threads menu f
no_call classes making threads menu i e here before f (inl memory) = inl memory
no_call classes making threads menu i e here before f (inr bad) = inr (record {
  place = i;
  entry = e;
  here = here;
  before = λ k y less at. before k less y at;
  bad = bad;
})
