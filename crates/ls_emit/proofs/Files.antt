-- The methods of a file.
use Rattle.ls_code.specs.Limits.{most_instructions}
use Rattle.std.proofs.Common.{◌≡◌, ℕ, zero, suc, ◌+◌, ◌<◌, ◌≤◌, length, map, sym, subst, arith, Result, Ok, Err, List}
use Rattle.std.proofs.Common.{[], ◌∷◌, true, false}
use Rattle.std.specs.Prelude.{All, slice_index_or, IfErr}
use Rattle.std.proofs.lemmas.List.{get_or-map, length-map}
use Rattle.std.proofs.lemmas.List.Elements.{All-map}
use Rattle.ls_lowered.specs.LoweredTree as lowered
use Rattle.ls_lowered.specs.declared.tree.Method.{Method}
use Rattle.ls_lowered.specs.Plain.{plain_method}
use Rattle.ls_emit.specs.Emittable.{AllEmittable}
use Rattle.ls_emit.specs.Units.{method_size}
use Rattle.ls_emit.specs.Small.{IsSmallStatement}
use Rattle.ls_emit.specs.Short.{AllShort}
use Rattle.ls_emit.specs.declared.fault.EmitFault.{EmitFault}
use Rattle.ls_emit.specs.declared.fault.EmitFault.TheVariants.{Memory, CodeTooLong}
use Rattle.ls_emit.proofs.Smalls.{small_statement}

all_cons : {X : Type 0} (P : X → Type 0) (x : X) (xs : List X) →
    P x →
    All P xs →
    (k : ℕ) (d : X) →
    k < length (x ∷ xs) →
    P (slice_index_or (x ∷ xs) k d)
all_cons P x xs p h zero d l = p
all_cons P x xs p h (suc k) d l = h k d (omega arith)

-- if all methods may be emitted, their bodies are small
pub all_small_bodies : (ms : lowered.File) (xs : List Method) →
    AllEmittable ms (map plain_method xs) →
    All (λ m. IsSmallStatement (plain_method m).body) xs
all_small_bodies ms [] h = λ k d l. absurd (let f : ⊥ = omega arith in f)
all_small_bodies ms (x ∷ xs) h =
    all_cons (λ m. IsSmallStatement (plain_method m).body) x xs
    (small_statement ms (x.arguments + x.locals) h.0.locals (plain_method x).body 0 h.0.body)
    (all_small_bodies ms xs h.1)

-- a property of mapped elements
pub all_of_map : {X Y : Type 0} (P : Y → Type 0) (f : X → Y) (xs : List X) → All P (map f xs) → All (λ x. P (f x)) xs
all_of_map P f xs h = λ k d l. subst P (get_or-map f xs k d (f d) l)
    (h k (f d) (let e = length-map xs f in omega (arith, e, l)))

-- the methods that the code sees and those of the file
pub short_methods : (methods items : List Method) →
    methods ≡ items →
    All (λ m. method_size (plain_method m) ≤ most_instructions) methods →
    AllShort (map plain_method items)
short_methods methods items e h = All-map (λ m. method_size m ≤ most_instructions) plain_method items
    (subst (λ ms. All (λ m. method_size (plain_method m) ≤ most_instructions) ms) e h)

-- if the methods of the file are short, so are those that the code sees
pub methods_short : (methods items : List Method) →
    methods ≡ items →
    AllShort (map plain_method items) →
    All (λ m. method_size (plain_method m) ≤ most_instructions) methods
methods_short methods items e h = subst (λ ms. All (λ m. method_size (plain_method m) ≤ most_instructions) ms) (sym e)
    (all_of_map (λ m. method_size m ≤ most_instructions) plain_method items h)

-- false is not true
pub no_truth : false ≡ true → ⊥
no_truth e = cc

-- if the methods are short, the answer isn't that one is too long
pub not_long : {A : Type 0} (f : lowered.File) (r : Result A EmitFault) →
    AllShort f →
    (r ≡ Err CodeTooLong → ⊥) →
    (r ≡ Err CodeTooLong → AllShort f → ⊥) × ((AllShort f → ⊥) → r ≡ Err CodeTooLong)
not_long f r short other = (λ e all. other e, λ h. absurd (h short))

-- if memory ran out, the answer isn't that a method is too long
pub wants_memory : {A : Type 0} (r : Result A EmitFault) → IfErr r (λ e. e ≡ Memory) → r ≡ Err CodeTooLong → ⊥
wants_memory {A} r is e = let P : Result A EmitFault → Type 0 = λ x. IfErr x (λ e. e ≡ Memory) in
    let wrong : CodeTooLong ≡ Memory = subst P e is in cc

-- what was emitted isn't refused
pub made : {A : Type 0} (x : A) (r : Result A EmitFault) → r ≡ Ok x → r ≡ Err CodeTooLong → ⊥
made x r e f = cc

-- a property of equal lists
pub same_of : {X : Type 0} (P : X → Type 0) (ys xs : List X) → ys ≡ xs → All P xs → All P ys
same_of P ys xs e h = subst (λ zs. All P zs) (sym e) h
