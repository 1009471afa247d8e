-- Lists of things: what is read is spelled so, and what is spelled is read again.
use Rattle.std.proofs.Common.{◌≡◌, ℕ, zero, suc, ◌+◌, ◌<◌, ◌≤◌, Bool, true, false, List, [], ◌∷◌, ◌++◌, length, Some}
use Rattle.std.proofs.Common.{refl, sym, ap, subst, ◌∙◌, arith, append_assoc}
use Rattle.std.specs.List.{AllByRecursion, flat_map}
use Rattle.std.proofs.lemmas.List.{append-nil}
use Rattle.std.proofs.lemmas.List.Concat.{flat_map-cons}
use Rattle.ls_lexer.specs.Lexemes.{Lexeme}
use Rattle.ls_parser_tokens.specs.Reading.{Reader, repeat, one_more, many_from, many_at}
use Rattle.ls_parser_expressions.proofs.Repeats.{bind_some, some_is, repeat_sound, repeat_stops, turn}

-- how a thing is spelled onto the tokens that follow
abbrev pub Onto : Type 0 → Type 0
Onto A = A → List Lexeme → List Lexeme

-- things of a list, one after the other
abbrev pub onto_all : {A : Type 0} → Onto A → List A → List Lexeme → List Lexeme
onto_all onto [] rest = rest
onto_all onto (x ∷ xs) rest = onto x (onto_all onto xs rest)

-- one thing more
pub onto_all_push : {A : Type 0} (onto : Onto A) (xs : List A) (x : A) (rest : List Lexeme) →
    onto_all onto (xs ++ x ∷ []) rest ≡ onto_all onto xs (onto x rest)
onto_all_push onto [] x rest = refl
onto_all_push onto (y ∷ xs) x rest = ap (onto y) (onto_all_push onto xs x rest)

-- if each thing is spelled onto tokens as its spelling says, so is the list
pub onto_all_spells : {A : Type 0} (onto : Onto A) (spell : A → List Lexeme) →
    ((x : A) (rest : List Lexeme) → onto x rest ≡ spell x ++ rest) →
    (xs : List A) (rest : List Lexeme) →
    onto_all onto xs rest ≡ flat_map spell xs ++ rest
onto_all_spells onto spell one [] rest = refl
onto_all_spells onto spell one (x ∷ xs) rest =
    one x (onto_all onto xs rest) ∙ ap (λ (ks : List Lexeme). spell x ++ ks) (onto_all_spells onto spell one xs rest) ∙
    sym (append_assoc (spell x) (flat_map spell xs) rest)
    ∙ ap (λ (ks : List Lexeme). ks ++ rest) (sym (flat_map-cons spell x xs))

-- a list has at least as many tokens as things
pub onto_all_longer : {A : Type 0} (onto : Onto A) →
    ((x : A) (rest : List Lexeme) → length rest < length (onto x rest)) →
    (xs : List A) (rest : List Lexeme) →
    length xs + length rest ≤ length (onto_all onto xs rest)
onto_all_longer onto longer [] rest = omega arith
onto_all_longer onto longer (x ∷ xs) rest =
    omega (arith, longer x (onto_all onto xs rest), onto_all_longer onto longer xs rest)

-- a property of one thing more
pub all_push : {A : Type 0} (P : A → Type 0) (xs : List A) (x : A) →
    AllByRecursion P xs →
    P x →
    AllByRecursion P (xs ++ x ∷ [])
all_push P [] x all p = (p, tt)
all_push P (y ∷ xs) x all p = (all.0, all_push P xs x all.1 p)

pub all_map : {A : Type 0} (P Q : A → Type 0) → ((x : A) → P x → Q x) → (xs : List A) →
    AllByRecursion P xs →
    AllByRecursion Q xs
all_map P Q f [] all = tt
all_map P Q f (x ∷ xs) all = (f x all.0, all_map P Q f xs all.1)

-- what was read of a list
pub record Took {A : Type 0} (onto : Onto A) (P : A → Type 0) (ks : List Lexeme) (x : List A × List Lexeme) : Type 0
  where
    pub spelled : ks ≡ onto_all onto x.0 x.1
    pub each : AllByRecursion P x.0

-- a thing that is read is spelled by its tokens, and has the property
abbrev pub SoundItem : {A : Type 0} → Onto A → (A → Type 0) → Reader A → Type 0
SoundItem {A} onto P item = (ks : List Lexeme) (x : A × List Lexeme) → item ks ≡ Some x → (ks ≡ onto x.0 x.1) × P x.0

module _ {A : Type 0} (onto : Onto A) (P : A → Type 0) (goes : List Lexeme → Bool) (item : Reader A) where
  step_sound : SoundItem onto P item →
      (whole : List Lexeme) (front : List A) (ks : List Lexeme) (x : List A × List Lexeme) →
      Took onto P whole (front, ks) →
      one_more item front ks ≡ Some x →
      Took onto P whole x
  step_sound sound whole front ks x before e =
      let b = bind_some (item ks) _ x e in
      let one = sound ks b.0 b.1 in
      subst (Took onto P whole) (some_is (front ++ b.0.0 ∷ [], b.0.1) x b.2) (record {
        spelled = before.spelled ∙ ap (onto_all onto front) one.0 ∙ sym (onto_all_push onto front b.0.0 b.0.1);
        each = all_push P front b.0.0 before.each one.1;
      })

  -- a list that is read is spelled by its tokens
  pub many_sound : SoundItem onto P item →
      (ks : List Lexeme) (x : List A × List Lexeme) →
      many_at goes item ks ≡ Some x →
      Took onto P ks x × (goes x.1 ≡ false)
  many_sound sound ks x e =
      repeat_sound goes (one_more item) (λ front rest. Took onto P ks (front, rest))
      (λ front rest y before go step. step_sound sound ks front rest y before step)
      (length ks) [] ks x (record { spelled = refl; each = tt }) e

  -- each thing is read, whatever of the list follows it, and its first token asks for it
  abbrev pub CompleteItem : (List Lexeme → Type 0) → Type 0
  CompleteItem Follows = (t : A) (rest : List Lexeme) → P t → Follows rest → item (onto t rest) ≡ Some (t, rest)

  after : (Follows : List Lexeme → Type 0) →
      ((t : A) (rest : List Lexeme) → P t → (goes (onto t rest) ≡ true) × Follows (onto t rest)) →
      (ts : List A) (rest : List Lexeme) →
      AllByRecursion P ts →
      Follows rest →
      Follows (onto_all onto ts rest)
  after Follows starts [] rest each follows = follows
  after Follows starts (t ∷ ts) rest each follows = (starts t (onto_all onto ts rest) each.0).1

  goes_through : (Follows : List Lexeme → Type 0) →
      CompleteItem Follows →
      ((t : A) (rest : List Lexeme) → P t → (goes (onto t rest) ≡ true) × Follows (onto t rest))
      → (turns : ℕ) (front ts : List A) (rest : List Lexeme) → length ts ≤ turns → AllByRecursion P ts →
      goes rest ≡ false → Follows rest
      → repeat turns goes (one_more item) front (onto_all onto ts rest) ≡ Some (front ++ ts, rest)
  goes_through Follows complete starts turns front [] rest le each stop follows =
      repeat_stops goes (one_more item) turns front rest stop ∙
      ap (λ (l : List A). Some (l, rest)) (sym (append-nil front))
  goes_through Follows complete starts zero front (t ∷ ts) rest le each stop follows = absurd (omega arith)
  goes_through Follows complete starts (suc turns) front (t ∷ ts) rest le each stop follows =
      let follows' : Follows (onto_all onto ts rest) = after Follows starts ts rest each.1 follows in
      turn goes (one_more item) turns front (onto t (onto_all onto ts rest)) (starts t (onto_all onto ts rest) each.0).0
      ∙ rw (complete t (onto_all onto ts rest) each.0 follows') refl
      ∙ goes_through Follows complete starts turns (front ++ t ∷ []) ts rest (omega arith) each.1 stop follows
      ∙ ap (λ (l : List A). Some (l, rest)) (append_assoc front (t ∷ []) ts)

  -- a list that is spelled is read again, after things that are read already
  pub many_from_complete : (Follows : List Lexeme → Type 0) →
      CompleteItem Follows →
      ((t : A) (rest : List Lexeme) → P t → (goes (onto t rest) ≡ true) × Follows (onto t rest))
      → ((t : A) (rest : List Lexeme) → length rest < length (onto t rest))
      → (front ts : List A) (rest : List Lexeme) → AllByRecursion P ts → goes rest ≡ false → Follows rest →
      many_from front goes item (onto_all onto ts rest) ≡ Some (front ++ ts, rest)
  many_from_complete Follows complete starts longer front ts rest each stop follows =
      goes_through Follows complete starts (length (onto_all onto ts rest)) front ts rest
      (omega (arith, onto_all_longer onto longer ts rest)) each stop follows
