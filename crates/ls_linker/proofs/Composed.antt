-- The laws of the layers, one after the other.
use Rattle.std.proofs.Common.{◌≡◌, ℕ, zero, suc, ◌+◌, ◌≤◌, List, [], ◌∷◌, length, map, take, drop, Option, Some, None}
use Rattle.std.proofs.Common.{refl, sym, subst, ap, ◌∙◌, arith}
use Rattle.std.specs.Prelude.{slice_get}
use Rattle.ls_events.specs.declared.value.Value.{Value}
use Rattle.ls_events.specs.declared.value.ValueType.{ValueType}
use Rattle.ls_checked.specs.CheckedTree.{File, Method}
use Rattle.ls_refs.specs.ValueWords.{value_word, IsSmall}
use Rattle.ls_types_judgement.specs.Sorts.{HaveTypes}
use Rattle.ls_types_judgement.specs.Typing.{IsTypedFile, parameters_of}
use Rattle.ls_refs.specs.Lowered.{lowered_method, lowered_file}
use Rattle.ls_refs.specs.Laws.{answer_words}
use Rattle.ls_finally.specs.Flat.{flat_method}
use Rattle.ls_finally.specs.Placed.{AllPlaced, Takes, TakesIn}
use Rattle.ls_finally.specs.Laws.{KeepsCourses}
use Rattle.ls_soundness.specs.InCall.{SuitedInCall}
use Rattle.ls_linker.specs.Laws.{LoweredAsks}
use Rattle.ls_linker.specs.Compiled.{flat_of}

got : {A B : Type 0} (f : A → B) (xs : List A) (n : ℕ) (x : A) →
    slice_get xs n ≡ Some x →
    slice_get (map f xs) n ≡ Some (f x)
got f [] n x e = absurd (none e)
  where
    none : {C : Type 0} {y : C} → None ≡ Some y → ⊥
    none e = cc
got f (y ∷ ys) zero x e = ap (through f) e
  where
    through : {A B : Type 0} → (A → B) → Option A → Option B
    through f None = None
    through f (Some x) = Some (f x)
got f (y ∷ ys) (suc n) x e = got f ys n x e

length-words : (vs : List Value) → length (map value_word vs) ≡ length vs
length-words [] = refl
length-words (v ∷ vs) = omega (arith, length-words vs)

as_many : (ts : List ValueType) (vs : List Value) → HaveTypes IsSmall ts vs → length vs ≡ length ts
as_many [] [] h = refl
as_many [] (v ∷ vs) h = absurd h
as_many (t ∷ ts) [] h = absurd h
as_many (t ∷ ts) (v ∷ vs) h = omega (arith, as_many ts vs h.1)

taken : {A : Type 0} (n : ℕ) (xs : List A) → n ≤ length xs → length (take n xs) ≡ n
taken zero xs le = refl
taken (suc n) [] le = absurd (let f : ⊥ = omega arith in f)
taken (suc n) (x ∷ xs) le = let e = taken n xs (omega arith) in omega (arith, e)

module _ (file : File) (typed : IsTypedFile file) (suited : SuitedInCall file)
    (keeps : KeepsCourses) (placed : AllPlaced (lowered_file file) (lowered_file file)) where
  lowered_at : (n : ℕ) (m : Method) →
      slice_get file.methods n ≡ Some m →
      slice_get (lowered_file file) n ≡ Some (lowered_method file.classes m)
  lowered_at n m e = got (lowered_method file.classes) file.methods n m e

  -- the slots of a typed method are `this`, its parameters and more
  parameters_here : (n : ℕ) (m : Method) → slice_get file.methods n ≡ Some m → length (parameters_of m) ≡ m.parameters
  parameters_here n m e =
      let t = typed n m e in
      ap (λ slots. length (take m.parameters (drop 1 slots))) t.this ∙ taken m.parameters t.locals t.parameters

  takes_here : (n : ℕ) (m : Method) (k : ℕ) →
      slice_get file.methods n ≡ Some m →
      k ≡ m.parameters + 1 →
      Takes (lowered_file file) n k
  takes_here n m k e f = subst (λ o. TakesIn o k) (sym (lowered_at n m e)) f

  -- the tree without `try` asks as its file
  pub lowered_asks : LoweredAsks file (flat_of file)
  lowered_asks = record {
    asks = λ depth n m o vs go throw q found types s.
        let ic = suited depth n m o vs found types.0 types.1 go throw q s in
        let many : length (map value_word (o ∷ vs)) ≡ m.parameters + 1 = omega
        (arith, length-words (o ∷ vs), as_many (parameters_of m) vs types.1, parameters_here n m found) in
        record {
          words = keeps (lowered_file file) placed depth n (map value_word (o ∷ vs)) (answer_words q)
              (takes_here n m (length (map value_word (o ∷ vs))) found many) ∙ ic.words;
          answered = λ v rest e. (ic.answered v rest e).1;
        };
    takes = λ n m found.
        let g = flat_method (lowered_method file.classes m) in (
          g,
          got flat_method (lowered_file file) n (lowered_method file.classes m) (lowered_at n m found),
          ap (λ k. k + 1) (sym (parameters_here n m found)),
        );
  }
