-- Nothing, then the units, then the threads.
use Rattle.std.proofs.Common.{◌≡◌, ℕ, ◌+◌, List, [], ◌∷◌, ◌++◌, length, refl, subst, ap, ap₂, ◌∙◌, map, arith}
use Rattle.std.proofs.lemmas.List.{length-append}
use Rattle.ls_checked.specs.CheckedTree.{File}
use Rattle.ls_checked.specs.CheckedProgram.{Program}
use Rattle.ls_code.specs.Code.{Code}
use Rattle.ls_emit.specs.Units.{CodeUnit, moved}
use Rattle.ls_linker.specs.Linked.{linked, words_of, units_code, threads_code, threads_rows, starts}
use Rattle.ls_linker.specs.Added.{AddsUnits, AddsThreads, first_parts}

length-map : {A B : Type 0} (f : A → B) (xs : List A) → length (map f xs) ≡ length xs
length-map f [] = refl
length-map f (x ∷ xs) = omega (arith, length-map f xs)

-- how long the code of units is
pub units_length : (p : ℕ) (us : List CodeUnit) → length (units_code p us) ≡ words_of us
units_length p [] = refl
units_length p (u ∷ us) =
    length-append (map (moved p) u.instructions) (units_code (p + length u.instructions) us)
    ∙ ap₂ (λ a b. a + b) (length-map (moved p) u.instructions) (units_length (p + length u.instructions) us)

parts : (a b : Code) →
    a.instructions ≡ b.instructions →
    a.handlers ≡ b.handlers →
    a.methods ≡ b.methods →
    a.sizes ≡ b.sizes →
    a.starts ≡ b.starts →
    a.names ≡ b.names →
    a ≡ b
parts a b i h m s t n =
    ap (λ x. record a { instructions = x }) i ∙ ap (λ x. record a { instructions = b.instructions; handlers = x }) h
    ∙ ap (λ x. record b { methods = x; sizes = a.sizes; starts = a.starts; names = a.names }) m ∙
    ap (λ x. record b { sizes = x; starts = a.starts; names = a.names }) s
    ∙ ap (λ x. record b { starts = x; names = a.names }) t ∙ ap (λ x. record b { names = x }) n

-- units and threads that are added make the whole code
pub whole_linked : (file : File) (program : Program) (units : List CodeUnit) (first middle new : Code) →
    first ≡ first_parts file program →
    AddsUnits first units middle → AddsThreads file.classes middle program.threads new → new ≡ linked file program units
whole_linked file program units first middle new e u b =
    let a : AddsUnits (first_parts file program) units middle = subst (λ c. AddsUnits c units middle) e u in
    let place : length middle.instructions ≡ words_of units = ap length a.instructions ∙ units_length 0 units in
    parts new (linked file program units) (b.instructions ∙ ap (λ x. x ++ threads_code file.classes program.threads)
    a.instructions)
    (b.handlers ∙ ap₂ (λ x n. x ++ threads_rows file.classes n program.threads) a.handlers place)
    (b.methods ∙ a.methods) (b.sizes ∙ a.sizes)
    (b.starts ∙ ap₂ (λ x n. x ++ starts file.classes n program.threads) a.starts place) (b.names ∙ a.names)
