-- Answers that suit, under more things and other names.
use Rattle.std.proofs.Common.{◌≡◌, ℕ, zero, suc, ◌+◌, List, [], ◌∷◌, ◌++◌, length, map, Option, Some, None, refl, sym}
use Rattle.std.proofs.Common.{ap, ◌∙◌, subst, arith}
use Rattle.ls_events.specs.declared.kind.Kind.{Kind}
use Rattle.ls_events.specs.declared.value.Value.{Value}
use Rattle.ls_events.specs.declared.value.Value.TheVariants.{Int, Boolean, Reference, Pair}
use Rattle.ls_events.specs.declared.value.ValueType.{ValueType}
use Rattle.ls_events.specs.declared.value.ValueType.TheVariants as type
use Rattle.ls_events.specs.declared.action.Action.{Action}
use Rattle.ls_events.specs.declared.action.Action.TheVariants.{ReadField, WriteField, ReadItem, WriteItem, ReadName}
use Rattle.ls_events.specs.declared.action.Action.TheVariants.{WriteName, New, NewLock, NewMarkable, NewArray, Lock}
use Rattle.ls_events.specs.declared.action.Action.TheVariants.{Unlock, TryLock, IsHeld, LockMonitor, UnlockMonitor}
use Rattle.ls_events.specs.declared.action.Action.TheVariants.{ReadPair, SetPair, SwapPair, AttemptMark, Turn, Enter}
use Rattle.ls_events.specs.declared.action.Action.TheVariants.{Call, Return, Trap}
use Rattle.ls_events.specs.declared.action.Answer.{Answer}
use Rattle.ls_events.specs.declared.action.Answer.TheVariants.{Done, Gives, Fails}
use Rattle.ls_checked.specs.CheckedTree.{File}
use Rattle.ls_checked.specs.CheckedProgram.{Program, ProgramCall, Making, Calling}
use Rattle.ls_meaning.specs.declared.sort.Sort.{Sort}
use Rattle.ls_meaning.specs.declared.sort.Sort.TheVariants.{ValueOf, NewOf, PairOf}
use Rattle.ls_meaning.specs.Course.{Answers}
use Rattle.ls_meaning.specs.Threads.{Next, Goes, Ended, Trapped}
use Rattle.ls_preservation.specs.InWords.{word_of, written, map_option, map_action, map_answer}
use Rattle.ls_meaning.specs.Renamings.{renamed}
use Rattle.ls_preservation.specs.Sorts.{Refers, Names, HasTypeBy, HasSortBy, Returns, ActionHas, CanFail, Suits, Suited}
use Rattle.ls_preservation.specs.Sorts.{call_at}
use Rattle.ls_meaning.specs.Renamings.{renamed_result, renamed_action, renamed_next}
use Rattle.ls_preservation.proofs.Cells.{IsOneToOne}
use Rattle.ls_preservation.proofs.Lists.{get_within}
use Rattle.ls_preservation.proofs.Cells.{AgreeTo, refers_within, written_agree, pair_agree, sort_agree}
use Rattle.ls_preservation.proofs.Effects.{sort_more}

-- words of a renamed thing
option_words : (ρ : ℕ → ℕ) (v : Option Value) → map_option word_of (renamed_result ρ v) ≡ map_option (written ρ) v
option_words ρ None = refl
option_words ρ (Some v) = refl

-- an action with renamed references, as words, is the action written with the renaming
pub action_words : (ρ : ℕ → ℕ) (a : Action Value) →
    map_action (λ n. n) word_of (renamed_action ρ a) ≡ map_action ρ (written ρ) a
action_words ρ (ReadField n f) = refl
action_words ρ (WriteField n f v) = refl
action_words ρ (ReadItem n i) = refl
action_words ρ (WriteItem n i v) = refl
action_words ρ (ReadName n) = refl
action_words ρ (WriteName n v) = refl
action_words ρ (New k) = refl
action_words ρ NewLock = refl
action_words ρ (NewMarkable v) = refl
action_words ρ (NewArray n) = refl
action_words ρ (Lock n) = refl
action_words ρ (Unlock n) = refl
action_words ρ (TryLock n) = refl
action_words ρ (IsHeld n) = refl
action_words ρ (LockMonitor n) = refl
action_words ρ (UnlockMonitor n) = refl
action_words ρ (ReadPair n) = refl
action_words ρ (SetPair n v) = refl
action_words ρ (SwapPair n e d) = refl
action_words ρ (AttemptMark n r m) = refl
action_words ρ Turn = refl
action_words ρ (Enter m) = refl
action_words ρ (Call n) = refl
action_words ρ (Return n v) = ap (Return n) (option_words ρ v)
action_words ρ (Trap n k) = refl

answer_words : (ρ : ℕ → ℕ) (x : Answer Value) → map_answer word_of (map_answer (renamed ρ) x) ≡ map_answer (written ρ) x
answer_words ρ Done = refl
answer_words ρ (Gives v) = refl
answer_words ρ (Fails k) = refl

-- the same of a list of answers
pub answers_words : (ρ : ℕ → ℕ) (had : Answers) →
    map (map_answer word_of) (map (map_answer (renamed ρ)) had) ≡ map (map_answer (written ρ)) had
answers_words ρ [] = refl
answers_words ρ (x ∷ had) = let e = answer_words ρ x in let e' = answers_words ρ had in
    ap (λ y. y ∷ map (map_answer word_of) (map (map_answer (renamed ρ)) had)) e ∙
    ap (λ l. map_answer (written ρ) x ∷ l) e'

-- one more answer
pub suited_end : (P : ℕ → ValueType → Type 0) (asks : Answers → Next) (had : Answers) (x : Answer Value) →
    Suited P asks had →
    Suits P (asks had) x →
    Suited P asks (had ++ x ∷ [])
suited_end P asks [] x h g = (g, tt)
suited_end P asks (y ∷ rest) x h g = (h.0, suited_end P (λ more. asks (y ∷ more)) rest x h.1 g)

-- references of which less is asked
pub suits_more : (P Q : ℕ → ValueType → Type 0) →
    ((n : ℕ) (s : ValueType) → P n s → Q n s) →
    (d : Next) (x : Answer Value) →
    Suits P d x →
    Suits Q d x
suits_more P Q f (Goes a s) Done h = h
suits_more P Q f (Goes a s) (Gives v) h = sort_more P Q f v s h
suits_more P Q f (Goes a s) (Fails k) h = h
suits_more P Q f Ended x h = absurd h
suits_more P Q f Trapped x h = absurd h

-- answers that suit keep suiting if less is asked of a reference
pub suited_more : (P Q : ℕ → ValueType → Type 0) →
    ((n : ℕ) (s : ValueType) → P n s → Q n s) →
    (asks : Answers → Next) (had : Answers) →
    Suited P asks had →
    Suited Q asks had
suited_more P Q f asks [] h = tt
suited_more P Q f asks (x ∷ rest) h = (
  suits_more P Q f (asks []) x h.0,
  suited_more P Q f (λ more. asks (x ∷ more)) rest h.1,
)

-- other names
type_renamed : (P Q : ℕ → ValueType → Type 0) (ρ : ℕ → ℕ) →
    ((n : ℕ) (s : ValueType) → P n s → Q (ρ n) s) →
    (v : Value) (s : ValueType) →
    HasTypeBy P v s →
    HasTypeBy Q (renamed ρ v) s
type_renamed P Q ρ f (Int z) type.Int h = h
type_renamed P Q ρ f (Boolean b) type.Boolean h = tt
type_renamed P Q ρ f (Reference n) type.BooleanArray h = f n type.BooleanArray h
type_renamed P Q ρ f (Reference n) (type.Class c) h = f n (type.Class c) h
type_renamed P Q ρ f (Reference n) type.Lock h = f n type.Lock h
type_renamed P Q ρ f (Reference n) (type.Markable c) h = f n (type.Markable c) h
type_renamed P Q ρ f _ _ h = absurd h

sort_renamed : (P Q : ℕ → ValueType → Type 0) (ρ : ℕ → ℕ) →
    ρ 0 ≡ 0 →
    IsOneToOne ρ →
    ((n : ℕ) (s : ValueType) → P n s → Q (ρ n) s) →
    (v : Value) (s : Sort) →
    HasSortBy P v s →
    HasSortBy Q (renamed ρ v) s
sort_renamed P Q ρ z one f v (ValueOf t) h = type_renamed P Q ρ f v t h
sort_renamed P Q ρ z one f (Reference n) (NewOf t) h = ((λ e. h.0 (one n 0 (e ∙ sym z))), f n t h.1)
sort_renamed P Q ρ z one f (Pair n m) (PairOf c) h = f n (type.Class c) h
sort_renamed P Q ρ z one f _ _ h = absurd h

fails_renamed : (ρ : ℕ → ℕ) (a : Action Value) (k : Kind) → CanFail a k → CanFail (renamed_action ρ a) k
fails_renamed ρ (ReadItem n i) k h = h
fails_renamed ρ (WriteItem n i v) k h = h
fails_renamed ρ (Lock n) k h = h
fails_renamed ρ (TryLock n) k h = h
fails_renamed ρ (Unlock n) k h = h
fails_renamed ρ (LockMonitor n) k h = h
fails_renamed ρ (UnlockMonitor n) k h = h
fails_renamed ρ _ k h = absurd h

suits_renamed : (P Q : ℕ → ValueType → Type 0) (ρ : ℕ → ℕ) →
    ρ 0 ≡ 0 →
    IsOneToOne ρ →
    ((n : ℕ) (s : ValueType) → P n s → Q (ρ n) s) →
    (d : Next) (x : Answer Value) →
    Suits P d x →
    Suits Q (renamed_next ρ d) (map_answer (renamed ρ) x)
suits_renamed P Q ρ z one f (Goes a s) Done h = h
suits_renamed P Q ρ z one f (Goes a s) (Gives v) h = sort_renamed P Q ρ z one f v s h
suits_renamed P Q ρ z one f (Goes a s) (Fails k) h = fails_renamed ρ a k h
suits_renamed P Q ρ z one f Ended x h = absurd h
suits_renamed P Q ρ z one f Trapped x h = absurd h

-- if references are renamed one to one, answers that suit still suit
pub suited_renamed : (P Q : ℕ → ValueType → Type 0) (ρ : ℕ → ℕ) →
    ρ 0 ≡ 0 →
    IsOneToOne ρ →
    ((n : ℕ) (s : ValueType) → P n s → Q (ρ n) s) →
    (asks asks' : Answers → Next) →
    ((had : Answers) → asks' (map (map_answer (renamed ρ)) had) ≡ renamed_next ρ (asks had)) →
    (had : Answers) →
    Suited P asks had →
    Suited Q asks' (map (map_answer (renamed ρ)) had)
suited_renamed P Q ρ z one f asks asks' law [] h = tt
suited_renamed P Q ρ z one f asks asks' law (x ∷ rest) h = (
  subst (λ d. Suits Q d (map_answer (renamed ρ) x)) (sym (law [])) (suits_renamed P Q ρ z one f (asks []) x h.0),
  suited_renamed P Q ρ z one f (λ more. asks (x ∷ more)) (λ more. asks' (map_answer (renamed ρ) x ∷ more))
      (λ had. law (x ∷ had)) rest h.1,
)

-- two renamings that agree on what is there
pub answer_agree : (σ : List ValueType) (ρ ρ' : ℕ → ℕ) →
    AgreeTo (length σ) ρ ρ' →
    (d : Next) (x : Answer Value) →
    Suits (Refers σ) d x →
    map_answer (written ρ) x ≡ map_answer (written ρ') x
answer_agree σ ρ ρ' a (Goes b s) Done h = refl
answer_agree σ ρ ρ' a (Goes b s) (Gives v) h = ap Gives (sort_agree σ ρ ρ' v s a h)
answer_agree σ ρ ρ' a (Goes b s) (Fails k) h = refl
answer_agree σ ρ ρ' a Ended x h = absurd h
answer_agree σ ρ ρ' a Trapped x h = absurd h

-- renamings that agree on the things that there are write answers alike
pub answers_agree : (σ : List ValueType) (ρ ρ' : ℕ → ℕ) →
    AgreeTo (length σ) ρ ρ' →
    (asks : Answers → Next) (had : Answers) →
    Suited (Refers σ) asks had →
    map (map_answer (written ρ)) had ≡ map (map_answer (written ρ')) had
answers_agree σ ρ ρ' a asks [] h = refl
answers_agree σ ρ ρ' a asks (x ∷ rest) h =
    ap (λ y. y ∷ map (map_answer (written ρ)) rest) (answer_agree σ ρ ρ' a (asks []) x h.0) ∙
    ap (λ l. map_answer (written ρ') x ∷ l) (answers_agree σ ρ ρ' a (λ more. asks (x ∷ more)) rest h.1)

names_agree : (σ : List ValueType) (ρ ρ' : ℕ → ℕ) →
    AgreeTo (length σ) ρ ρ' →
    (n : ℕ) (s : ValueType) →
    Names σ n s →
    ρ n ≡ ρ' n
names_agree σ ρ ρ' a zero s h = absurd h
names_agree σ ρ ρ' a (suc n) s h = a (suc n) (get_within σ n s h)

returns_agree : (ρ ρ' : ℕ → ℕ) →
    AgreeTo 0 ρ ρ' →
    (c : Option ProgramCall) (v : Option Value) →
    Returns c v →
    map_option (written ρ) v ≡ map_option (written ρ') v
returns_agree ρ ρ' a c None h = refl
returns_agree ρ ρ' a None (Some v) h = absurd h
returns_agree ρ ρ' a (Some (Making n c t vs)) (Some v) h = absurd h
returns_agree ρ ρ' a (Some (Calling n m t None vs)) (Some v) h = absurd h
returns_agree ρ ρ' a (Some (Calling n m t (Some type.Int) vs)) (Some v) h = ap Some
    (written_agree [] ρ ρ' v type.Int a h)
returns_agree ρ ρ' a (Some (Calling n m t (Some type.Boolean) vs)) (Some v) h = ap Some
    (written_agree [] ρ ρ' v type.Boolean a h)
returns_agree ρ ρ' a (Some (Calling n m t (Some _) vs)) (Some v) h = absurd h

-- renamings that agree on the things that there are write an action alike
pub action_agree : (file : File) (program : Program) (σ : List ValueType) (ρ ρ' : ℕ → ℕ) →
    AgreeTo (length σ) ρ ρ' →
    (t : ℕ) (a : Action Value) (s : Sort) →
    ActionHas file program σ t a s →
    map_action ρ (written ρ) a ≡ map_action ρ' (written ρ') a
action_agree file program σ ρ ρ' g t (ReadField n f) s h = ap (λ m. ReadField m (f + 1))
    (names_agree σ ρ ρ' g n (type.Class h.0) h.2)
action_agree file program σ ρ ρ' g t (WriteField n f v) s h =
    ap (λ m. WriteField m (f + 1) (written ρ v)) (names_agree σ ρ ρ' g n (type.Class h.0) h.2) ∙
    ap (WriteField (ρ' n) (f + 1)) (written_agree σ ρ ρ' v h.1 g h.4)
action_agree file program σ ρ ρ' g t (ReadItem n i) s h = ap (λ m. ReadItem m i)
    (names_agree σ ρ ρ' g n type.BooleanArray h.0)
action_agree file program σ ρ ρ' g t (WriteItem n i v) s h =
    ap (λ m. WriteItem m i (written ρ v)) (names_agree σ ρ ρ' g n type.BooleanArray h.0) ∙
    ap (WriteItem (ρ' n) i) (written_agree σ ρ ρ' v type.Boolean g h.1)
action_agree file program σ ρ ρ' g t (ReadName n) s h = refl
action_agree file program σ ρ ρ' g t (WriteName n v) s h = ap (WriteName n) (written_agree σ ρ ρ' v h.0 g h.2)
action_agree file program σ ρ ρ' g t (New k) s h = refl
action_agree file program σ ρ ρ' g t NewLock s h = refl
action_agree file program σ ρ ρ' g t (NewMarkable v) s h = ap NewMarkable (pair_agree σ ρ ρ' v h.0 g h.1)
action_agree file program σ ρ ρ' g t (NewArray n) s h = refl
action_agree file program σ ρ ρ' g t (Lock n) s h = ap Lock (names_agree σ ρ ρ' g n type.Lock h.0)
action_agree file program σ ρ ρ' g t (Unlock n) s h = ap Unlock (names_agree σ ρ ρ' g n type.Lock h.0)
action_agree file program σ ρ ρ' g t (TryLock n) s h = ap TryLock (names_agree σ ρ ρ' g n type.Lock h.0)
action_agree file program σ ρ ρ' g t (IsHeld n) s h = ap IsHeld (names_agree σ ρ ρ' g n type.Lock h.0)
action_agree file program σ ρ ρ' g t (LockMonitor n) s h = ap LockMonitor (names_agree σ ρ ρ' g n (type.Class h.0) h.1)
action_agree file program σ ρ ρ' g t (UnlockMonitor n) s h = ap UnlockMonitor
    (names_agree σ ρ ρ' g n (type.Class h.0) h.1)
action_agree file program σ ρ ρ' g t (ReadPair n) s h = ap ReadPair (names_agree σ ρ ρ' g n (type.Markable h.0) h.1)
action_agree file program σ ρ ρ' g t (SetPair n v) s h =
    ap (λ m. SetPair m (written ρ v)) (names_agree σ ρ ρ' g n (type.Markable h.0) h.1) ∙
    ap (SetPair (ρ' n)) (pair_agree σ ρ ρ' v h.0 g h.2)
action_agree file program σ ρ ρ' g t (SwapPair n e d) s h =
    ap (λ m. SwapPair m (written ρ e) (written ρ d)) (names_agree σ ρ ρ' g n (type.Markable h.0) h.1) ∙
    ap (λ w. SwapPair (ρ' n) w (written ρ d)) (pair_agree σ ρ ρ' e h.0 g h.2) ∙
    ap (SwapPair (ρ' n) (written ρ' e)) (pair_agree σ ρ ρ' d h.0 g h.3)
action_agree file program σ ρ ρ' g t (AttemptMark n r m) s h =
    ap (λ k. AttemptMark k (ρ r) m) (names_agree σ ρ ρ' g n (type.Markable h.0) h.1) ∙
    ap (λ k. AttemptMark (ρ' n) k m) (g r (refers_within σ r (type.Class h.0) h.2))
action_agree file program σ ρ ρ' g t Turn s h = refl
action_agree file program σ ρ ρ' g t (Enter m) s h = refl
action_agree file program σ ρ ρ' g t (Call n) s h = refl
action_agree file program σ ρ ρ' g t (Return n v) s h = ap (Return n)
    (returns_agree ρ ρ' (λ k l. g k (omega arith)) (call_at program t n) v h.0)
action_agree file program σ ρ ρ' g t (Trap n k) s h = refl

-- what is said in an event has the type of its call
abbrev pub Says : Program → ℕ → Action Value → Type 0
Says program t (Return n v) = Returns (call_at program t n) v
Says program t _ = Unit {0}

-- an action of the right types says what its event has to say
pub says : (file : File) (program : Program) (σ : List ValueType) (t : ℕ) (a : Action Value) (s : Sort) →
    ActionHas file program σ t a s →
    Says program t a
says file program σ t (Return n v) s h = h.0
says file program σ t (ReadField n f) s h = tt
says file program σ t (WriteField n f v) s h = tt
says file program σ t (ReadItem n i) s h = tt
says file program σ t (WriteItem n i v) s h = tt
says file program σ t (ReadName n) s h = tt
says file program σ t (WriteName n v) s h = tt
says file program σ t (New k) s h = tt
says file program σ t NewLock s h = tt
says file program σ t (NewMarkable v) s h = tt
says file program σ t (NewArray n) s h = tt
says file program σ t (Lock n) s h = tt
says file program σ t (Unlock n) s h = tt
says file program σ t (TryLock n) s h = tt
says file program σ t (IsHeld n) s h = tt
says file program σ t (LockMonitor n) s h = tt
says file program σ t (UnlockMonitor n) s h = tt
says file program σ t (ReadPair n) s h = tt
says file program σ t (SetPair n v) s h = tt
says file program σ t (SwapPair n e d) s h = tt
says file program σ t (AttemptMark n r m) s h = tt
says file program σ t Turn s h = tt
says file program σ t (Enter m) s h = tt
says file program σ t (Call n) s h = tt
says file program σ t (Trap n k) s h = tt
