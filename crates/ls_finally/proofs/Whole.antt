-- The methods of a file.
use Rattle.ls_lowered.specs.Limits.{most_locals}
use Rattle.std.proofs.Common.{◌≡◌, ℕ, ◌<◌, ◌≤◌, length, map, refl, sym, subst, arith, Result, Ok, Err, List}
use Rattle.std.specs.Prelude.{All, slice_index_or, IfErr}
use Rattle.std.proofs.lemmas.List.Elements.{All-map}
use Rattle.ls_lowered.specs.declared.tree.Method.{Method}
use Rattle.ls_lowered.specs.declared.fault.LowerFault.{LowerFault}
use Rattle.ls_lowered.specs.declared.fault.LowerFault.TheVariants.{Memory, TooManyLocals, TooManyCopies}
use Rattle.ls_lowered.specs.Plain.{plain_method}
use Rattle.ls_finally.specs.Code.{TooMany}
use Rattle.ls_finally.specs.Counts.{locals_of, copies_of, FewLocals, FewCopies, Refused}
use Rattle.ls_lowered.proofs.Taken.{all_of_map}

-- the methods that the code sees and those of the file
pub few_locals : (methods items : List Method) →
    methods ≡ items →
    All (λ m. locals_of (plain_method m) ≤ most_locals) methods →
    FewLocals (map plain_method items)
few_locals methods items e h = All-map (λ m. locals_of m ≤ most_locals) plain_method items
    (subst (λ ms. All (λ m. locals_of (plain_method m) ≤ most_locals) ms) e h)

-- if the file has few locals, each method has at most 128
pub not_few_locals : (methods items : List Method) →
    methods ≡ items →
    FewLocals (map plain_method items) →
    All (λ m. locals_of (plain_method m) ≤ most_locals) methods
not_few_locals methods items e h = subst (λ ms. All (λ m. locals_of (plain_method m) ≤ most_locals) ms) (sym e)
    (all_of_map (λ m. locals_of m ≤ most_locals) plain_method items h)

-- if each method has at most 4096 copies, the file has few copies
pub few_copies : (methods items : List Method) →
    methods ≡ items →
    All (λ m. copies_of (plain_method m) ≤ 4096) methods →
    FewCopies (map plain_method items)
few_copies methods items e h = All-map (λ m. copies_of m ≤ 4096) plain_method items
    (subst (λ ms. All (λ m. copies_of (plain_method m) ≤ 4096) ms) e h)

-- a method with too many copies
pub too_many : (methods : List Method) (i : ℕ) (m : Method) →
    i < length methods →
    m ≡ slice_index_or methods i m →
    4096 < copies_of (plain_method m) →
    ¬ FewCopies (map plain_method methods)
too_many methods i m l e big = λ h.
    let all : All (λ m. copies_of (plain_method m) ≤ 4096) methods = all_of_map (λ m. copies_of m ≤ 4096) plain_method
    methods h in
    let few : copies_of (plain_method m) ≤ 4096 = subst (λ x. copies_of (plain_method x) ≤ 4096) (sym e) (all i m l) in
    omega (arith, few, big)

-- a method is refused
one_refused : (methods : List Method) (i : ℕ) (m : Method) (e : LowerFault) →
    i < length methods →
    m ≡ slice_index_or methods i m →
    All (λ m. locals_of (plain_method m) ≤ most_locals) methods →
    TooMany e (copies_of (plain_method m)) → Refused (map plain_method methods) e
one_refused methods i m Memory l is fits h = few_locals methods methods refl fits
one_refused methods i m TooManyLocals l is fits h = absurd h
one_refused methods i m TooManyCopies l is fits h = too_many methods i m l is h

-- the answer of one method is passed on
pub passes_on : {A : Type 0} (methods : List Method) (i : ℕ) (m : Method) (r : Result A LowerFault) →
    i < length methods →
    m ≡ slice_index_or methods i m →
    All (λ m. locals_of (plain_method m) ≤ most_locals) methods →
    IfErr r (λ e. TooMany e (copies_of (plain_method m))) → IfErr r (Refused (map plain_method methods))
passes_on methods i m (Ok x) l is fits h = tt
passes_on methods i m (Err e) l is fits h = one_refused methods i m e l is fits h
