-- An elaborated file is in range.
use Rattle.std.proofs.Common.{◌≡◌, ℕ, ◌+◌, ◌≤◌, List, [], ◌∷◌, length, map, Ok, arith}
use Rattle.std.proofs.lemmas.List.{length-map}
use Rattle.ls_checked.specs.CheckedTree.{Class}
use Rattle.ls_types_elaboration.specs.Trees.{Text, ClassTree, File}
use Rattle.ls_types_elaboration.specs.Known.{ClassSign}
use Rattle.ls_types_elaboration.specs.Signs.{Classes, class_names, class_signs}
use Rattle.ls_types_elaboration.specs.Elaboration.{Bodies, checked_class, file_methods, ElaboratedFile, elaborated}
use Rattle.ls_types_judgement.specs.Limits.{IsRanged}
use Rattle.ls_types_laws.proofs.Results.{Gives, bind, gives_of, both, total}
use Rattle.ls_types_laws.proofs.Lists.{Each, each_at}
use Rattle.ls_types_laws.proofs.Numbers.{class_count, bodies_add}
use Rattle.ls_types_laws.proofs.Limits.{AreFew, signs_number, signs_count, signs_few, names_count, names_few}

few_fields : (signs : List ClassSign) →
    Each (λ s. length s.fields ≤ 64) signs →
    Each (λ (c : Class). length c.fields ≤ 64) (map checked_class signs)
few_fields [] h = tt
few_fields (s ∷ ss) h = (few (length-map s.fields (λ f. f.type)) h.0, few_fields ss h.1)
  where
    few : {m n : ℕ} → m ≡ n → n ≤ 64 → m ≤ 64
    few e l = omega (arith, e, l)

abbrev IsRangedOutcome : ElaboratedFile → Type 0
IsRangedOutcome o = IsRanged o.file

outcome_ranged : (names : List Text) (classes : Classes) (trees : List ClassTree) (b : Bodies) →
    length names ≡ length trees →
    length names ≤ 64 →
    length classes.signs ≡ length trees → classes.next ≡ 0 + total class_count trees → AreFew classes →
    length b.methods ≡ 0 + total class_count trees →
    IsRanged (record { classes = map checked_class classes.signs; methods = b.methods })
outcome_ranged names classes trees b long most count number few many = record {
  classes = omega (arith, long, most, count, length-map classes.signs checked_class);
  fields = λ n c e. each_at (λ (c : Class). length c.fields ≤ 64) (map checked_class classes.signs) n c
      (few_fields classes.signs few.fields) e;
  methods = let f = few.methods in omega (arith, many, number, f);
}

elaborated_ranged : (f : File) → Gives IsRangedOutcome (elaborated f)
elaborated_ranged f =
    bind (λ (names : List Text). (length names ≡ length f.classes) × (length names ≤ 64)) IsRangedOutcome
    (class_names f.classes) _
    (both (λ (names : List Text). length names ≡ length f.classes) (λ names. length names ≤ 64) (class_names f.classes)
    (names_count f.classes) (names_few f.classes)) (λ names h.
    bind (λ (classes : Classes). (length classes.signs ≡ length f.classes) ×
    ((classes.next ≡ 0 + total class_count f.classes) × AreFew classes)) IsRangedOutcome
    (class_signs names f.classes) _
    (both (λ (classes : Classes). length classes.signs ≡ length f.classes)
    (λ classes. (classes.next ≡ 0 + total class_count f.classes) × AreFew classes) (class_signs names f.classes)
    (signs_count names f.classes)
    (both (λ (classes : Classes). classes.next ≡ 0 + total class_count f.classes) AreFew (class_signs names f.classes)
    (signs_number names f.classes) (signs_few names f.classes))) (λ classes s.
    bind (λ (b : Bodies). length b.methods ≡ 0 + total class_count f.classes) IsRangedOutcome
    (file_methods names classes.signs f.classes) _
    (bodies_add names classes.signs f.classes) (λ b k.
    outcome_ranged names classes f.classes b h.0 h.1 s.0 s.1.0 s.1.1 k)))

-- an elaborated file keeps the limits
pub ranged_when : (f : File) (o : ElaboratedFile) → elaborated f ≡ Ok o → IsRanged o.file
ranged_when f o e = gives_of IsRangedOutcome (elaborated f) o e (elaborated_ranged f)
