-- What follows each way in which a statement may complete.
use Rattle.std.proofs.Common.{◌≡◌, ℕ, ◌+◌, ◌-◌, ◌<◌, ◌≤◌, List, [], ◌∷◌, ◌++◌, length, Option, Some, None, Bool, refl}
use Rattle.std.proofs.Common.{ap, ◌∙◌, subst, arith, append_assoc, nat_lt, if◌then◌else◌}
use Rattle.std.proofs.lemmas.Bool.{lt-ltb}
use Rattle.std.proofs.lemmas.List.{drop_all}
use Rattle.ls_events.specs.declared.kind.Kind.{Kind}
use Rattle.ls_code.specs.Throws.{find_row, kind_word, caught, onto, thrown}
use Rattle.ls_code.specs.Fed.{Fed}
use Rattle.ls_code.specs.Steps.{thrown_thread}
use Rattle.ls_code.specs.Calls.{left_with}
use Rattle.ls_code.specs.Frame.{Frame, led_to}
use Rattle.ls_code.specs.Thread.{Thread}
use Rattle.ls_code.specs.declared.code.HandlerRow.{HandlerRow}
use Rattle.ls_lowered.specs.Course.{Answers}
use Rattle.ls_lowered.specs.Statements.{Normal, Returned, Threw, Left}
use Rattle.ls_emit.specs.Statements.{Targets, target_of, row_of}
use Rattle.ls_emit.proofs.Told.{Go, After, if_normal, if_thrown, if_left}
use Rattle.ls_emit.proofs.Steps.{Setting, frame, here, raised, Reaches, later}
use Rattle.ls_emit.proofs.Runs.{Catches}
use Rattle.ls_emit.proofs.StatementPlaces.{NoRow, row_in, row_behind}

module _ (s : Setting) where
  -- what follows code from p to p', which has rows of its own, unless it ends normally; q has the answers so far
  pub record Others (p p' : ℕ) (own : List HandlerRow) (t : Targets) (q : Answers) (g : Go) : Type 0 where
    pub left : (n : ℕ) (ls : List ℕ) (rest : Answers) →
        n < length t →
        length ls ≡ s.wide →
        length rest ≤ length q →
        Reaches s p' (Some (here s (target_of t n) ls [])) rest (g (Left n) ls rest)
    pub returned : (w c : ℕ) (ls ops : List ℕ) (rest : Answers) →
        p ≤ c →
        c < p' →
        length ls ≡ s.wide →
        length rest ≤ length q →
        Reaches s (c + 1) (left_with (here s c ls ops) s.base.below w) rest (g (Returned w) ls rest)
    pub threw : (kind : Kind) (c : ℕ) (ls ops : List ℕ) (rest : Answers) →
        p ≤ c →
        c < p' →
        NoRow c own →
        length ls ≡ s.wide →
        length rest ≤ length q →
        Reaches s (c + 1) (raised s kind c ls ops) rest (g (Threw kind) ls rest)

  abbrev pub Ending : ℕ → Answers → Go → Type 0
  Ending p' q g = (ls : List ℕ) (rest : Answers) → length ls ≡ s.wide → length rest ≤ length q →
      Reaches s p' (Some (here s p' ls [])) rest (g Normal ls rest)

  -- what follows code from p to p': its normal end, and its other ends
  pub record Exits (p p' : ℕ) (own : List HandlerRow) (t : Targets) (q : Answers) (g : Go) : Type 0 where
    pub normal : Ending p' q g
    pub others : Others p p' own t q g

  -- the place after the code under another name, and fewer answers
  pub ending_at : (p' p1' : ℕ) (q q1 : Answers) (g : Go) →
      p' ≡ p1' →
      length q1 ≤ length q →
      Ending p' q g →
      Ending p1' q1 g
  ending_at p' p1' q q1 g e lq r = subst (λ n. Ending n q1 g) e (λ ls rest el l. r ls rest el (omega arith))

  -- of an inner part
  pub narrowed : (p p' p1 p1' : ℕ) (own own1 : List HandlerRow) (t : Targets) (q q1 : Answers) (g : Go) →
      p ≤ p1 →
      p1' ≤ p' →
      length q1 ≤ length q →
      ((c : ℕ) → p1 ≤ c → c < p1' → NoRow c own1 → NoRow c own) →
      Others p p' own t q g →
      Others p1 p1' own1 t q1 g
  narrowed p p' p1 p1' own own1 t q q1 g lp lp' lq rows x = record {
    left = λ n ls rest a b c. later s p' p1' (Some (here s (target_of t n) ls [])) rest _ lp'
        (x.left n ls rest a b (omega arith));
    returned = λ w c ls ops rest l1 l2 a b. x.returned w c ls ops rest (omega arith) (omega arith) a (omega arith);
    threw = λ kind c ls ops rest l1 l2 free a b. x.threw kind c ls ops rest (omega arith) (omega arith)
        (rows c l1 l2 free) a (omega arith);
  }

  -- of a part before others
  pub others_normal : (p p' : ℕ) (own : List HandlerRow) (t : Targets) (q : Answers) (g : Go)
      (f : List ℕ → Answers → Fed) →
      Others p p' own t q g →
      Others p p' own t q (if_normal g f)
  others_normal p p' own t q g f x = record { left = x.left; returned = x.returned; threw = x.threw }

  -- of a guarded body
  pub others_thrown : (p p' : ℕ) (own own1 : List HandlerRow) (t : Targets) (q : Answers) (g : Go) (f : After Kind) →
      Others p p' own t q g →
      ((kind : Kind) (c : ℕ) (ls ops : List ℕ) (rest : Answers) → p ≤ c → c < p' → NoRow c own1 → length ls ≡ s.wide →
      length rest ≤ length q → Reaches s (c + 1) (raised s kind c ls ops) rest (f kind ls rest)) →
      Others p p' own1 t q (if_thrown g f)
  others_thrown p p' own own1 t q g f x r = record { left = x.left; returned = x.returned; threw = r }

  -- of a leavable body
  pub others_left : (p p' : ℕ) (own : List HandlerRow) (t t' : Targets) (q : Answers) (g : Go) (f : After ℕ) →
      Others p p' own t q g →
      ((n : ℕ) (ls : List ℕ) (rest : Answers) → n < length t' → length ls ≡ s.wide → length rest ≤ length q →
      Reaches s p' (Some (here s (target_of t' n) ls [])) rest (f n ls rest)) →
      Others p p' own t' q (if_left g f)
  others_left p p' own t t' q g f x r = record { left = r; returned = x.returned; threw = x.threw }

  -- a throw in code that no row of the statement holds
  pub catches_by : (p p' p1 p1' : ℕ) (own : List HandlerRow) (t : Targets) (q q1 : Answers) (g : Go) →
      p ≤ p1 →
      p1' ≤ p' →
      length q1 ≤ length q →
      ((c : ℕ) → p1 ≤ c → c < p1' → NoRow c own) →
      Others p p' own t q g →
      Catches s p1 p1' q1 (λ kind ls q. g (Threw kind) ls q)
  catches_by p p' p1 p1' own t q q1 g lp lp' lq free x kind ls ops rest c l1 l2 el l = x.threw kind c ls ops rest
      (omega arith) (omega arith) (free c l1 l2) el (omega arith)

  -- of the rows of the whole code, those of the statement come first for its places
  abbrev pub Owns : ℕ → ℕ → List HandlerRow → Type 0
  Owns p p' own = (c : ℕ) → p ≤ c → c < p' → (more : List HandlerRow) ×
      (find_row s.code.handlers c ≡ find_row (own ++ more) c)

  -- the rows of a first part come first for its places
  pub owns_front : (p p' p1 p1' : ℕ) (a b : List HandlerRow) → p ≤ p1 → p1' ≤ p' → Owns p p' (a ++ b) → Owns p1 p1' a
  owns_front p p' p1 p1' a b lp lq o c l1 l2 =
      let r = o c (omega arith) (omega arith) in
      (b ++ r.0, r.1 ∙ ap (λ l. find_row l c) (append_assoc a b r.0))

  -- the rows of a last part come first for its places, if no earlier row holds them
  pub owns_back : (p p' p1 p1' : ℕ) (a b : List HandlerRow) →
      p ≤ p1 →
      p1' ≤ p' →
      ((c : ℕ) → p1 ≤ c → c < p1' → NoRow c a) →
      Owns p p' (a ++ b) →
      Owns p1 p1' b
  owns_back p p' p1 p1' a b lp lq free o c l1 l2 =
      let r = o c (omega arith) (omega arith) in
      (r.0, r.1 ∙ ap (λ l. find_row l c) (append_assoc a b r.0) ∙ row_behind c a (b ++ r.0) (free c l1 l2))

  -- where a throw goes on, by the row that holds its place
  abbrev pub by_row : Kind → ℕ → List ℕ → List ℕ → Option HandlerRow → Option Thread
  by_row kind c ls ops None = thrown_thread (here s c ls ops) (thrown s.code.handlers kind s.base.below)
  by_row kind c ls ops (Some row) = thrown_thread (here s c ls ops)
      (onto (caught row kind (frame s c ls ops)) s.base.below)

  -- a throw goes on by the row that holds its place
  pub raised_by : (kind : Kind) (c : ℕ) (ls ops : List ℕ) →
      raised s kind c ls ops ≡ by_row kind c ls ops (find_row s.code.handlers c)
  raised_by kind c ls ops = at (find_row s.code.handlers c) where
    at : (o : Option HandlerRow) →
        thrown_thread (here s c ls ops) (elim o as (λ _. Option (Frame × List Frame)) [
          | Some row ↦ onto (caught row kind (frame s c ls ops)) s.base.below
          | None ↦ thrown s.code.handlers kind
              s.base.below
        ]) ≡ by_row kind c ls ops o
    at None = refl
    at (Some row) = refl

  -- a throw from a guarded body goes on at its handler
  pub caught_at : (kind : Kind) (p c size : ℕ) (rb rh : List HandlerRow) (p' : ℕ) (ls ops : List ℕ) →
      p ≤ c →
      c < p + size →
      p + size ≤ p' →
      NoRow c rb →
      1 ≤ s.base.top.need →
      Owns p p' (rb ++ (row_of p size ∷ rh)) →
      raised s kind c ls ops ≡ Some (here s (p + size + 1) ls (kind_word kind ∷ []))
  caught_at kind p c size rb rh p' ls ops l1 l2 lq free room owns =
      let r = owns c l1 (omega arith) in
      let found = r.1 ∙ ap (λ l. find_row l c) (append_assoc rb (row_of p size ∷ rh) r.0) ∙
      row_behind c rb (row_of p size ∷ (rh ++ r.0)) free ∙ row_in (row_of p size) (rh ++ r.0) c l1 l2 in
      let goes_on = λ (l : List ℕ) (b : Bool). thrown_thread (here s c ls ops)
      (onto (if b then Some (led_to (frame s c ls ops) (p + size + 1) (kind_word kind ∷ l)) else None)
      s.base.below) in
      raised_by kind c ls ops
      ∙ ap (by_row kind c ls ops) found
      ∙ ap (λ l. goes_on l (nat_lt (length l) s.base.top.need)) (drop_all (length ops - 0) ops (omega arith))
      ∙ ap (goes_on []) (lt-ltb 0 s.base.top.need room)
