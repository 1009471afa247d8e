-- The methods of a file.
use Rattle.ls_lowered.specs.Limits.{most_locals}
use Rattle.std.proofs.Common.{◌≡◌, ℕ, ◌+◌, ◌<◌, ◌≤◌, length, take, map, sym, ap, ◌∙◌, subst, Result, Ok, Err, List, []}
use Rattle.std.proofs.Common.{◌∷◌, ◌++◌}
use Rattle.std.specs.Prelude.{All, slice_index_or, IfErr}
use Rattle.std.proofs.lemmas.List.{take_all}
use Rattle.std.proofs.lemmas.List.Elements.{All-map}
use Rattle.std.proofs.lemmas.Simd.{map-map}
use Rattle.ls_checked.specs.CheckedTree as checked
use Rattle.ls_checked.specs.declared.tree.Method.{Method}
use Rattle.ls_checked.specs.Plain.{plain_method}
use Rattle.ls_lowered.specs.declared.tree.Method.{Method as Lowered}
use Rattle.ls_lowered.specs.declared.fault.LowerFault.{LowerFault}
use Rattle.ls_lowered.specs.declared.fault.LowerFault.TheVariants.{Memory}
use Rattle.ls_lowered.specs.Plain.{plain_method as plain_lowered}
use Rattle.ls_refs.specs.Temporaries.{locals_of}
use Rattle.ls_refs.specs.Lowered.{lowered_method}
use Rattle.ls_refs.specs.Refused.{AllFit, Refused}
use Rattle.ls_lowered.proofs.Taken.{all_of_map, mapped_more}

-- the methods that the code sees and those of the file
pub fitting : (methods items : List Method) →
    methods ≡ items →
    All (λ m. locals_of (plain_method m) ≤ most_locals) methods →
    AllFit (map plain_method items)
fitting methods items e h = All-map (λ m. locals_of m ≤ most_locals) plain_method items
    (subst (λ ms. All (λ m. locals_of (plain_method m) ≤ most_locals) ms) e h)

-- if the file's methods have few locals, so has each method of the code
pub not_fitting : (methods items : List Method) →
    methods ≡ items →
    AllFit (map plain_method items) →
    All (λ m. locals_of (plain_method m) ≤ most_locals) methods
not_fitting methods items e h = subst (λ ms. All (λ m. locals_of (plain_method m) ≤ most_locals) ms) (sym e)
    (all_of_map (λ m. locals_of m ≤ most_locals) plain_method items h)

-- where the methods fit, want of memory may be answered
pub wants_memory : {A : Type 0} (f : checked.File) (r : Result A LowerFault) →
    AllFit f.methods →
    IfErr r (λ e. e ≡ Memory) →
    IfErr r (Refused f)
wants_memory f (Ok x) fits e = tt
wants_memory f (Err e) fits is = subst (λ z. Refused f z) (sym is) fits

-- all methods are lowered
pub all_lowered_so : (classes : List checked.Class) (file : List Lowered) (items methods : List Method) (i : ℕ) →
    methods ≡ items →
    length methods ≤ i →
    map plain_lowered file ≡ map (λ m. lowered_method classes (plain_method m)) (take i methods) →
    map plain_lowered file ≡ map (lowered_method classes) (map plain_method items)
all_lowered_so classes file items methods i e l h =
    h ∙ ap (map (λ m. lowered_method classes (plain_method m))) (take_all i methods l ∙ e) ∙
    sym (map-map (lowered_method classes) plain_method items)

-- one method more
pub one_lowered_more : (classes : List checked.Class) (old new : List Lowered) (x : Lowered) (methods : List Method)
    (i : ℕ) (m : Method) →
    i < length methods →
    m ≡ slice_index_or methods i m →
    new ≡ old ++ x ∷ [] → plain_lowered x ≡ lowered_method classes (plain_method m) →
    map plain_lowered old ≡ map (λ m. lowered_method classes (plain_method m)) (take i methods) →
    map plain_lowered new ≡ map (λ m. lowered_method classes (plain_method m)) (take (i + 1) methods)
one_lowered_more classes old new x methods i m l e pushed is h = mapped_more plain_lowered
    (λ m. lowered_method classes (plain_method m)) old new x methods i m l e pushed is h

-- what holds of all items holds of the one at a place
pub found_at : {X : Type 0} (P : X → Type 0) (ys xs : List X) (i : ℕ) (x : X) →
    ys ≡ xs →
    i < length ys →
    x ≡ slice_index_or ys i x →
    All P xs →
    P x
found_at P ys xs i x same l e h = let all = subst (λ zs. All P zs) (sym same) h in subst P (sym e) (all i x l)
