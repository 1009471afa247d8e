-- Expressions whose words ask what they ask, with any locals that agree; and their arguments.
use Rattle.std.proofs.Common.{◌≡◌, ℕ, zero, suc, ◌+◌, ◌<◌, ◌≤◌, List, [], ◌∷◌, length, map, Some, None, refl, ◌∙◌}
use Rattle.std.proofs.Common.{arith}
use Rattle.std.specs.Prelude.{slice_index, slice_index_or, slice_get}
use Rattle.ls_events.specs.declared.kind.Kind.{Kind}
use Rattle.ls_events.specs.declared.value.Value.{Value}
use Rattle.ls_events.specs.declared.value.ValueType.{ValueType}
use Rattle.ls_events.specs.declared.value.ValueType.TheVariants as types
use Rattle.ls_checked.specs.CheckedTree.{File, Method, Expression, Expressions, End, More}
use Rattle.ls_meaning.specs.declared.sort.Sort.{Sort}
use Rattle.ls_meaning.specs.declared.sort.Sort.TheVariants.{ValueOf}
use Rattle.ls_meaning.specs.Values.{nothing}
use Rattle.ls_meaning.specs.Course.{Answers, Evaluated, Asks, Results, Throws, with_value}
use Rattle.ls_meaning.specs.Expressions.{Calls, evaluate, arguments}
use Rattle.ls_lowered.specs.Course as low
use Rattle.ls_lowered.specs.Expressions.{evaluate as find, evaluate_all}
use Rattle.ls_refs.specs.ValueWords.{value_word}
use Rattle.ls_types_judgement.specs.Sorts.{HasType, HasSort, HaveTypes}
use Rattle.ls_types_judgement.specs.Typing.{answer_sort, parameters_of}
use Rattle.ls_refs.specs.Temporaries.{temporaries, all_temporaries}
use Rattle.ls_refs.specs.Lowered.{lowered, all_lowered}
use Rattle.ls_refs.proofs.Sim.{sim_eq, ends, Agrees, gets_agrees, then_agrees, Kept}

-- the locals of the tree are the first of the words'
pub record Holds (P : ℕ → ValueType → Type 0) (slots : List ValueType) (ls : List Value) (old : List ℕ) : Type 0 where
  pub long : length ls ≡ length slots
  pub typed : (i : ℕ) (t : ValueType) → slice_get slots i ≡ Some t → HasType P (slice_index_or ls i nothing) t
  pub worded : (i : ℕ) → i < length slots → slice_index old i ≡ value_word (slice_index_or ls i nothing)

-- words that are the same up to the locals hold the same values
pub holds_kept : (P : ℕ → ValueType → Type 0) (slots : List ValueType) (ls : List Value) (base : ℕ) (old new : List ℕ) →
    length slots ≤ base →
    Kept base old new →
    Holds P slots ls old →
    Holds P slots ls new
holds_kept P slots ls base old new le k h = record {
  long = h.long;
  typed = h.typed;
  worded = λ i l. k.at i (omega arith) ∙ h.worded i l;
}

-- an item that is there has a place within the list
pub get_within : {A : Type 0} (xs : List A) (i : ℕ) (x : A) → slice_get xs i ≡ Some x → i < length xs
get_within [] i x e = absurd (none e)
  where
    none : {A : Type 0} {x : A} → None ≡ Some x → ⊥
    none e = cc
get_within (y ∷ xs) zero x e = omega arith
get_within (y ∷ xs) (suc i) x e = let l = get_within xs i x e in omega arith

module _ (P : ℕ → ValueType → Type 0) (file : File) (calls : Calls) (calls' : low.Calls) where
  -- a call of a method with `this` and arguments of the right types
  abbrev pub CallsAgree : Type 0
  CallsAgree = (base : ℕ) (old : List ℕ) (n : ℕ) (m : Method) (o : Value) (vs : List Value) →
      slice_get file.methods n ≡ Some m → HasType P o (types.Class m.class) → HaveTypes P (parameters_of m) vs →
      Agrees P (HasSort P (answer_sort m.result)) value_word base old (λ q. calls n (o ∷ vs) q)
      (λ q. low.returned old (calls' n (map value_word (o ∷ vs)) q))

  module _ (slots : List ValueType) where
    -- an expression, from each frame that words hold, asks and ends as its words do
    pub record Good (s : Sort) (e : Expression) : Type 0 where
      pub good : (base : ℕ) (ls : List Value) (old : List ℕ) →
          Holds P slots ls old →
          length slots ≤ base →
          base + temporaries e ≤ length old →
          Agrees P (HasSort P s) value_word base old (λ q. evaluate file.classes calls e ls q)
          (λ q. find calls' (lowered file.classes base e) old q)

    -- each argument does, with its parameter's type
    abbrev pub Each : List ValueType → Expressions → Type 0
    Each [] End = Unit {0}
    Each (t ∷ ts) (More e es) = Good (ValueOf t) e × Each ts es
    Each _ _ = ⊥

    -- then all arguments, one after another, do
    pub all_agree : (ts : List ValueType) (es : Expressions) (base : ℕ) (ls : List Value) (old : List ℕ) →
        Each ts es →
        Holds P slots ls old →
        length slots ≤ base →
        base + all_temporaries es ≤ length old →
        Agrees P (HaveTypes P ts) (map value_word) base old (λ q. arguments file.classes calls es ls q)
        (λ q. evaluate_all calls' (all_lowered file.classes base es) old q)
    all_agree [] End base ls old t h le room = gets_agrees P (HaveTypes P []) (map value_word) base old [] [] tt refl
    all_agree (t ∷ ts) (More e es) base ls old g h le room =
        then_agrees P _ _ _ _ base base (base + temporaries e) old _ _ _ _ (omega arith) (omega arith)
        (g.0.good base ls old h le (omega arith)) (λ v l hv k.
        then_agrees P _ _ _ _ (base + temporaries e) (base + temporaries e) (base + temporaries e) l _ _ _ _
        (omega arith) (omega arith)
        (all_agree ts es (base + temporaries e) ls l g.1 (holds_kept P slots ls base old l le k h) (omega arith)
        (omega (arith, k.long))) (λ vs l2 hvs k2.
        gets_agrees P (HaveTypes P (t ∷ ts)) (map value_word) (base + temporaries e) l2 (v ∷ vs)
        (value_word v ∷ map value_word vs) (hv, hvs) refl))
    all_agree [] (More e es) base ls old g h le room = absurd g
    all_agree (t ∷ ts) End base ls old g h le room = absurd g

  -- arguments one by one
  inner : (x : Evaluated (List Value)) (v : Value) (k : List Value → Answers → Evaluated Value)
      (go : Value → Answers → Evaluated Value) (h : Kind → Answers → Evaluated Value) →
      ends (with_value (with_value x (λ vs r. Results (v ∷ vs) r)) k) go h ≡ ends (with_value x (λ vs r. k (v ∷ vs) r))
      go h
  inner (Asks a s) v k go h = refl
  inner (Results vs r) v k go h = refl
  inner (Throws n r) v k go h = refl

  outer : (y : Evaluated Value) (z : Answers → Evaluated (List Value)) (k : List Value → Answers → Evaluated Value)
      (go : Value → Answers → Evaluated Value) (h : Kind → Answers → Evaluated Value) →
      ends (with_value (with_value y (λ v r. with_value (z r) (λ vs r. Results (v ∷ vs) r))) k) go h ≡ ends
      (with_value y (λ v r. with_value (z r) (λ vs r. k (v ∷ vs) r))) go h
  outer (Asks a s) z k go h = refl
  outer (Results v r) z k go h = inner (z r) v k go h
  outer (Throws n r) z k go h = refl

  -- arguments that are one expression are evaluated as that expression
  pub one_argument : {B : Type 0} (H : Value → Type 0) (W : Value → B) (base : ℕ) (old : List ℕ) (e : Expression)
      (es : Expressions) (ls : List Value) (k : List Value → Answers → Evaluated Value)
      (x' : low.Answers → low.Course (low.Outcome B)) →
      Agrees P H W base old (λ q. with_value (evaluate file.classes calls e ls q)
      (λ v r. with_value (arguments file.classes calls es ls r) (λ vs r. k (v ∷ vs) r))) x' →
      Agrees P H W base old (λ q. with_value (arguments file.classes calls (More e es) ls q) k) x'
  one_argument H W base old e es ls k x' a = record {
    sim = λ go h go' h' kg kh. sim_eq P _ _ _ _ (λ q. outer (evaluate file.classes calls e ls q)
        (λ r. arguments file.classes calls es ls r) k go h) (λ q. refl) (a.sim go h go' h' kg kh);
  }
