-- What is so of each item of a list is so of the list.
use Rattle.std.proofs.Common.{◌≡◌, ℕ, zero, suc, List, [], ◌∷◌, ◌++◌, drop, map, Some, refl, sym, ap, ◌∙◌, subst}
use Rattle.std.proofs.Common.{reverse}
use Rattle.std.specs.Prelude.{slice_get}
use Rattle.std.proofs.lemmas.List.{map-append, reverse-append}
use Rattle.ls_checked.specs.CheckedTree.{File, Method}
use Rattle.ls_checked.specs.CheckedProgram.{ProgramCall}
use Rattle.ls_events.specs.declared.value.Value.{Value}
use Rattle.ls_events.specs.declared.value.Value.TheVariants.{Int, Boolean, Reference, Pair}
use Rattle.ls_meaning.specs.Constants.{AllConstant, CallsHaveConstants, FileHasConstants, IsConstant, UsesConstants}
use Rattle.ls_meaning.specs.Renamings.{renamed}
use Rattle.ls_source_pending.specs.Pending.{Frame}
use Rattle.ls_source_pending.specs.Seen.{frame_of, frames_of}
use Rattle.ls_source_pending.specs.declared.work.Frame.{Frame as KeptFrame}
use Rattle.ls_works.specs.Frames.{FramesHaveConstants, renamed_frame, renamed_values}
use Rattle.ls_renaming.specs.declared.names.Names.{Names}
use Rattle.ls_renaming.specs.Seen.{names_of}
use Rattle.ls_renaming.specs.Constants.{MethodsHaveConstants}

some_is : {A : Type 0} {x y : A} → Some x ≡ Some y → x ≡ y
some_is h = cc

methods_file : (ms : List Method) → MethodsHaveConstants ms → (n : ℕ) (m : Method) → slice_get ms n ≡ Some m →
    UsesConstants m.body
methods_file [] h n m e = cc
methods_file (x ∷ xs) h zero m e = subst (λ (y : Method). UsesConstants y.body) (some_is e) h.0
methods_file (x ∷ xs) h (suc n) m e = methods_file xs h.1 n m e

pub file_constants : (file : File) → MethodsHaveConstants file.methods → FileHasConstants file
file_constants file h = methods_file file.methods h

pub calls_dropped : (cs : List ProgramCall) (n : ℕ) → CallsHaveConstants cs → CallsHaveConstants (drop n cs)
calls_dropped cs zero h = h
calls_dropped [] (suc n) h = h
calls_dropped (c ∷ cs) (suc n) h = calls_dropped cs n h.1

constants_after : (fs gs : List Frame) → FramesHaveConstants fs → FramesHaveConstants gs →
    FramesHaveConstants (fs ++ gs)
constants_after [] gs h k = k
constants_after (f ∷ fs) gs h k = (h.0, constants_after fs gs h.1 k)

constants_reversed : (fs : List Frame) → FramesHaveConstants fs → FramesHaveConstants (reverse fs)
constants_reversed [] h = h
constants_reversed (f ∷ fs) h =
    subst FramesHaveConstants (sym (reverse-append (f ∷ []) fs))
    (constants_after (reverse fs) (f ∷ []) (constants_reversed fs h.1) (h.0, tt))

-- the innermost frame comes last
pub frames_constants : (fs : List KeptFrame) → FramesHaveConstants (map frame_of fs) →
    FramesHaveConstants (frames_of fs)
unfolding frames_of
frames_constants fs h = constants_reversed (map frame_of fs) h

map_reversed : {A B : Type 0} (f : A → B) (xs : List A) → reverse (map f xs) ≡ map f (reverse xs)
map_reversed f [] = refl
map_reversed f (x ∷ xs) =
    reverse-append (f x ∷ []) (map f xs)
    ∙ ap (λ l. l ++ f x ∷ []) (map_reversed f xs)
    ∙ sym (map-append f (reverse xs) (x ∷ []))
    ∙ sym (ap (map f) (reverse-append (x ∷ []) xs))

pub frames_renamed : (names : ℕ → ℕ) (fs gs : List KeptFrame) →
    map frame_of gs ≡ map (renamed_frame names) (map frame_of fs) →
    frames_of gs ≡ map (renamed_frame names) (frames_of fs)
unfolding frames_of
frames_renamed names fs gs e = ap reverse e ∙ map_reversed (renamed_frame names) (map frame_of fs)

constant_value : (names : ℕ → ℕ) → names 0 ≡ 0 → (v : Value) → IsConstant v → v ≡ renamed names v
constant_value names null (Int z) h = refl
constant_value names null (Boolean b) h = refl
constant_value names null (Reference n) h = ap Reference (h ∙ sym null ∙ ap names (sym h))
constant_value names null (Pair n m) h = absurd h

constants_same : (names : ℕ → ℕ) → names 0 ≡ 0 → (vs : List Value) → AllConstant vs → vs ≡ map (renamed names) vs
constants_same names null [] h = refl
constants_same names null (v ∷ vs) h =
    ap (λ w. w ∷ vs) (constant_value names null v h.0)
    ∙ ap (λ l. renamed names v ∷ l) (constants_same names null vs h.1)

-- ints, booleans and null have no other names
pub constant_values : (names : Names) (vs : List Value) → AllConstant vs → vs ≡ renamed_values (names_of names) vs
constant_values names vs h = constants_same (names_of names) refl vs h
