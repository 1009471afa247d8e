-- The methods of a file.
use Rattle.ls_code.specs.Limits.{most_instructions}
use Rattle.std.proofs.Common.{◌≡◌, ℕ, ◌+◌, ◌<◌, ◌≤◌, length, take, map, refl, sym, ap, ◌∙◌, subst, arith, Result, Ok}
use Rattle.std.proofs.Common.{Err, List, [], ◌∷◌, ◌++◌}
use Rattle.std.specs.Prelude.{All, slice_index_or, IfErr, min}
use Rattle.std.proofs.lemmas.List.{map-append}
use Rattle.std.proofs.lemmas.List.Elements.{All-map}
use Rattle.ls_lowered.specs.declared.tree.Method.{Method}
use Rattle.ls_lowered.specs.Plain.{plain_statement, plain_method}
use Rattle.ls_lowered.proofs.Taken.{taken_at, all_of_map}
use Rattle.ls_finally.specs.Flat.{flat_method, flat_file}
use Rattle.ls_finally.specs.Counts.{copies_of, FewCopies}
use Rattle.ls_emit.specs.Units.{method_size, file_size}
use Rattle.ls_linker.specs.Costs.{copied, counted_size, sum}
use Rattle.ls_linker.specs.Refused.{AreShort, AreShortTogether, Refused, TooManyOf}
use Rattle.ls_linker.specs.declared.count_fault.CountFault.{CountFault}
use Rattle.ls_linker.specs.declared.count_fault.CountFault.TheVariants.{Memory, TooManyCopies, TooLong}
use Rattle.ls_linker.specs.declared.count_fault.CountFault.TheVariants.{TooLongTogether}
use Rattle.ls_linker.proofs.Counted.{copied_right, size_right}

-- one more, of what is made of each
pub mapped_one : {X Y : Type 0} (f : Y → X) (old new : List X) (x : X) (ys : List Y) (i : ℕ) (y : Y) →
    i < length ys →
    y ≡ slice_index_or ys i y →
    new ≡ old ++ x ∷ [] → x ≡ f y → old ≡ map f (take i ys) → new ≡ map f (take (i + 1) ys)
mapped_one f old new x ys i y l e pushed is h =
    pushed ∙ ap (λ zs. zs ++ x ∷ []) h ∙ ap (λ z. map f (take i ys) ++ z ∷ []) is
    ∙ sym (ap (map f) (taken_at ys i y l e) ∙ map-append f (take i ys) (y ∷ []))

all_weaker : {X : Type 0} (P Q : X → Type 0) (xs : List X) → ((x : X) → P x → Q x) → All P xs → All Q xs
all_weaker P Q xs f h = λ k d l. f (slice_index_or xs k d) (h k d l)

few_here : (m : Method) → copied (plain_statement m.body) ≤ 4096 → copies_of (plain_method m) ≤ 4096
few_here m h = omega (arith, h, copied_right (plain_statement m.body) (m.arguments + m.locals))

counted_here : (m : Method) → copies_of (plain_method m) ≤ 4096 → copied (plain_statement m.body) ≤ 4096
counted_here m h = omega (arith, h, copied_right (plain_statement m.body) (m.arguments + m.locals))

-- the methods that the code sees and those of the file
pub few_copies : (methods items : List Method) →
    methods ≡ items →
    All (λ m. copied (plain_statement m.body) ≤ 4096) methods →
    FewCopies (map plain_method items)
few_copies methods items e h =
    All-map (λ m. copies_of m ≤ 4096) plain_method items
    (all_weaker (λ m. copied (plain_statement m.body) ≤ 4096) (λ m. copies_of (plain_method m) ≤ 4096) items few_here
    (subst (λ ms. All (λ m. copied (plain_statement m.body) ≤ 4096) ms) e h))

copies_few : (methods items : List Method) →
    methods ≡ items →
    FewCopies (map plain_method items) →
    All (λ m. copied (plain_statement m.body) ≤ 4096) methods
copies_few methods items e h =
    subst (λ ms. All (λ m. copied (plain_statement m.body) ≤ 4096) ms) (sym e)
    (all_weaker (λ m. copies_of (plain_method m) ≤ 4096) (λ m. copied (plain_statement m.body) ≤ 4096) items
    counted_here (all_of_map (λ m. copies_of m ≤ 4096) plain_method items h))

refused_so : (methods items : List Method) →
    methods ≡ items →
    (e : CountFault) →
    TooManyOf methods e →
    Refused (map plain_method items) e
refused_so methods items same Memory h = tt
refused_so methods items same TooManyCopies h = λ few. h (copies_few methods items same few)
refused_so methods items same TooLong h = absurd h
refused_so methods items same TooLongTogether h = absurd h

-- a refusal of one method is one of the file
pub passes_on : {A : Type 0} (methods items : List Method) (r : Result A CountFault) →
    methods ≡ items →
    IfErr r (TooManyOf methods) →
    IfErr r (Refused (map plain_method items))
passes_on methods items (Ok x) same h = tt
passes_on methods items (Err e) same h = refused_so methods items same e h

short_here : (m : Method) →
    method_size (flat_method (plain_method m)) ≤ most_instructions →
    counted_size (plain_statement m.body) ≤ most_instructions
short_here m h = omega (arith, h, size_right (plain_statement m.body) (m.arguments + m.locals))

size_here : (m : Method) →
    counted_size (plain_statement m.body) ≤ most_instructions →
    method_size (flat_method (plain_method m)) ≤ most_instructions
size_here m h = omega (arith, h, size_right (plain_statement m.body) (m.arguments + m.locals))

-- what is counted of each method, and the code of each
pub are_short : (methods items : List Method) (lengths : List ℕ) →
    methods ≡ items →
    lengths ≡ map (λ m. counted_size (plain_statement m.body)) methods →
    AreShort (map plain_method items) →
    All (λ n. n ≤ most_instructions) lengths
are_short methods items lengths same counted h =
    let flat : All (λ m. method_size (flat_method m) ≤ most_instructions) (map plain_method items) = all_of_map
    (λ m. method_size m ≤ most_instructions) flat_method (map plain_method items) h in
    let code : All (λ m. method_size (flat_method (plain_method m)) ≤ most_instructions) items = all_of_map
    (λ m. method_size (flat_method m) ≤ most_instructions) plain_method items flat in
    let short : All (λ m. counted_size (plain_statement m.body) ≤ most_instructions) items =
    all_weaker (λ m. method_size (flat_method (plain_method m)) ≤ most_instructions)
    (λ m. counted_size (plain_statement m.body) ≤ most_instructions) items short_here code in
    subst (λ ns. All (λ n. n ≤ most_instructions) ns) (sym (counted ∙
    ap (map (λ m. counted_size (plain_statement m.body))) same))
    (All-map (λ n. n ≤ most_instructions) (λ m. counted_size (plain_statement m.body)) items short)

-- if no counted length is over 65536, no method's code is too long
pub short_so : (methods items : List Method) (lengths : List ℕ) →
    methods ≡ items →
    lengths ≡ map (λ m. counted_size (plain_statement m.body)) methods →
    All (λ n. n ≤ most_instructions) lengths →
    AreShort (map plain_method items)
short_so methods items lengths same counted h =
    let all : All (λ n. n ≤ most_instructions) (map (λ m. counted_size (plain_statement m.body)) items) =
    subst (λ ns. All (λ n. n ≤ most_instructions) ns) (counted ∙
    ap (map (λ m. counted_size (plain_statement m.body))) same) h in
    let short : All (λ m. counted_size (plain_statement m.body) ≤ most_instructions) items = all_of_map
    (λ n. n ≤ most_instructions) (λ m. counted_size (plain_statement m.body)) items all in
    let code : All (λ m. method_size (flat_method (plain_method m)) ≤ most_instructions) items =
    all_weaker (λ m. counted_size (plain_statement m.body) ≤ most_instructions)
    (λ m. method_size (flat_method (plain_method m)) ≤ most_instructions) items size_here short in
    All-map (λ m. method_size m ≤ most_instructions) flat_method (map plain_method items)
    (All-map (λ m. method_size (flat_method m) ≤ most_instructions) plain_method items code)

-- the sum is right up to its bound
sum_right : (items : List Method) →
    min (sum (map (λ m. counted_size (plain_statement m.body)) items)) 65537 ≡ min
    (file_size (flat_file (map plain_method items))) 65537
sum_right [] = refl
sum_right (m ∷ ms) = omega (arith, size_right (plain_statement m.body) (m.arguments + m.locals), sum_right ms)

sum_here : (methods items : List Method) (lengths : List ℕ) →
    methods ≡ items →
    lengths ≡ map (λ m. counted_size (plain_statement m.body)) methods →
    min (sum lengths) 65537 ≡ min (file_size (flat_file (map plain_method items))) 65537
sum_here methods items lengths same counted =
    ap (λ ns. min (sum ns) 65537) (counted ∙ ap (map (λ m. counted_size (plain_statement m.body))) same) ∙
    sum_right items

-- if the methods are short together, so are the counted lengths
pub together : (methods items : List Method) (lengths : List ℕ) →
    methods ≡ items →
    lengths ≡ map (λ m. counted_size (plain_statement m.body)) methods →
    AreShortTogether (map plain_method items) →
    sum lengths ≤ most_instructions
together methods items lengths same counted h = omega (arith, h, sum_here methods items lengths same counted)

-- if the counted lengths are short together, so are the methods
pub together_so : (methods items : List Method) (lengths : List ℕ) →
    methods ≡ items →
    lengths ≡ map (λ m. counted_size (plain_statement m.body)) methods →
    sum lengths ≤ most_instructions →
    AreShortTogether (map plain_method items)
together_so methods items lengths same counted h = omega (arith, h, sum_here methods items lengths same counted)
