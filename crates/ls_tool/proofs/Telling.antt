-- What lines of progress add to a writer, one after another.
use Rattle.std.proofs.Common.{◌≡◌, ◌∙◌, ◌+◌, ◌≤◌, ℕ, suc, List, [], ◌∷◌, ◌++◌, take, length, refl, sym, ap, subst}
use Rattle.std.proofs.Common.{append_assoc, arith, Bool, true, false, Option, length-append}
use Rattle.std.proofs.KnownBytes.{Appends-nil, Appends-trans}
use Rattle.std.specs.Io.KnownBytes.{Appends}
use Rattle.ls_outlets.specs.Written.{IsWritten}
use Rattle.ls_report.specs.Events.{Text}
use Rattle.ls_command_line.specs.declared.words.Request.{Request}
use Rattle.ls_tool.specs.Output.{HasTold, HasToldAs, HasToldPrograms, Progresses, programs_line, programs_text}
use Rattle.ls_tool.specs.Output.{progress_line, progress_of, progress_text}
use Rattle.ls_tool.specs.declared.said.Telling.TheVariants.{Nothing, Programs, States}

append-nil-text : (xs : Text) → xs ++ [] ≡ xs
append-nil-text [] = refl
append-nil-text (x ∷ xs) = ap (λ ys. x ∷ ys) (append-nil-text xs)

-- one line more
progress_more : (count d : ℕ) (depths : List ℕ) →
    progress_text count (depths ++ d ∷ []) ≡ progress_text count depths ++ progress_line (count + length depths + 1) d
progress_more count d [] =
    let e : count + 1 ≡ count + 0 + 1 = omega arith in
    append-nil-text (progress_line (count + 1) d) ∙ ap (λ n. progress_line n d) e
progress_more count d (x ∷ depths) =
    let e : count + 1 + length depths + 1 ≡ count + suc (length depths) + 1 = omega arith in
    let h = progress_more (count + 1) d depths in
    ap (λ t. progress_line (count + 1) x ++ t) (h ∙ ap (λ n. progress_text (count + 1) depths ++ progress_line n d) e)
    ∙ sym (append_assoc (progress_line (count + 1) x) (progress_text (count + 1) depths)
    (progress_line (count + suc (length depths) + 1) d))

take_past : (xs ys : Text) (n : ℕ) → take (length xs + n) (xs ++ ys) ≡ xs ++ take n ys
take_past [] ys n = let e : 0 + n ≡ n = omega arith in ap (λ m. take m ys) e
take_past (x ∷ xs) ys n =
    let e : suc (length xs) + n ≡ suc (length xs + n) = omega arith in
    ap (λ m. take m (x ∷ (xs ++ ys))) e ∙ ap (λ zs. x ∷ zs) (take_past xs ys n)

written_then : (a b c : Option Text) (xs ys : Text) (is_written has_failed : Bool) →
    Appends a b xs → IsWritten ys is_written b c has_failed → IsWritten (xs ++ ys) is_written a c has_failed
written_then a b c xs ys true has_failed h k = Appends-trans a b c xs ys h k
written_then a b c xs ys false has_failed h k =
    let n = k.0.0 in
    let fits : length xs + n ≤ length (xs ++ ys) = omega (arith, k.0.1, length-append xs ys) in
    let begins : Appends a c (take (length xs + n) (xs ++ ys)) = subst (λ z. Appends a c z) (sym (take_past xs ys n))
    (Appends-trans a b c xs (take n ys) h k.0.2) in
    ((length xs + n, fits, begins), k.1)

-- one line more after lines that were all told
pub has_told_more : (before after d : ℕ) (is_told : Bool) (a b c : Option Text) (had_failed has_failed : Bool) →
    HasTold before after true a b had_failed →
    IsWritten (progress_line (after + 1) d) is_told b c has_failed →
    HasTold before (after + 1) is_told a c has_failed
has_told_more before after d is_told a b c had_failed has_failed h k =
    let lines : after ≡ before + length h.depths = h.lines refl in
    let line : IsWritten (progress_line (before + length h.depths + 1) d) is_told b c has_failed
    = subst (λ n. IsWritten (progress_line (n + 1) d) is_told b c has_failed) lines k in
    let more : IsWritten (progress_text before h.depths ++ progress_line (before + length h.depths + 1) d) is_told a c
    has_failed = written_then a b c _ _ is_told has_failed h.added line in
    record {
      depths = h.depths ++ d ∷ [];
      lines = λ _. omega (arith, lines, length-append h.depths (d ∷ []));
      added = subst (λ t. IsWritten t is_told a c has_failed) (sym (progress_more before d h.depths)) more;
    }

-- nothing yet
pub has_told_none : (before : ℕ) (is_open : Bool) (o : Option Text) (has_failed : Bool) →
    is_open ≡ true →
    HasTold before before is_open o o has_failed
has_told_none before is_open o has_failed e = record {
  depths = [];
  lines = λ _. omega arith;
  added = subst (λ b. IsWritten [] b o o has_failed) (sym e) (Appends-nil o);
}

-- the same of writers, before and after
pub progresses : {X : Type 0} (contents : X → Option Text) (failed : X → Bool) (r : Request) (a a' b b' : X)
    (before after : ℕ) (is_open : Bool) → progress_of r ≡ States → before ≡ 0 → a ≡ a' → b' ≡ b →
    HasTold before after is_open (contents a) (contents b) (failed b) →
    Progresses r (contents a') (contents b') (failed b')
progresses contents failed r a a' b b' before after is_open asks none from to h =
    let told : IsWritten (progress_text 0 h.depths) is_open (contents a) (contents b) (failed b) =
    subst (λ n. IsWritten (progress_text n h.depths) is_open (contents a) (contents b) (failed b)) none h.added in
    let there : IsWritten (progress_text 0 h.depths) is_open (contents a') (contents b') (failed b') =
    subst (λ x. IsWritten (progress_text 0 h.depths) is_open (contents x) (contents b') (failed b')) from
    (subst (λ y. IsWritten (progress_text 0 h.depths) is_open (contents a) (contents y) (failed y)) (sym to) told) in
    subst (λ t. HasToldAs t (contents a') (contents b') (failed b')) (sym asks) (h.depths, is_open, there)

-- a command that doesn't tell of it writes nothing
pub progresses_not : (r : Request) (o : Option Text) (has_failed : Bool) →
    progress_of r ≡ Nothing →
    Progresses r o o has_failed
progresses_not r o has_failed not = subst (λ t. HasToldAs t o o has_failed) (sym not) refl

-- ---- programs

one_more : (notes : List (ℕ × ℕ)) (n : ℕ × ℕ) →
    programs_text (notes ++ n ∷ []) ≡ programs_text notes ++ programs_line n
one_more [] n = append-nil-text (programs_line n)
one_more (m ∷ notes) n = ap (λ t. programs_line m ++ t) (one_more notes n)
    ∙ sym (append_assoc (programs_line m) (programs_text notes) (programs_line n))

-- one line more after lines that were all told
pub has_programs_more : (n : ℕ × ℕ) (is_told : Bool) (a b c : Option Text) (had_failed has_failed : Bool) →
    HasToldPrograms true a b had_failed →
    IsWritten (programs_line n) is_told b c has_failed →
    HasToldPrograms is_told a c has_failed
has_programs_more n is_told a b c had_failed has_failed h k = record {
  notes = h.notes ++ n ∷ [];
  added = subst (λ t. IsWritten t is_told a c has_failed) (sym (one_more h.notes n))
      (written_then a b c (programs_text h.notes) (programs_line n) is_told has_failed h.added k);
}

-- nothing yet
pub has_programs_none : (is_open : Bool) (o : Option Text) (has_failed : Bool) →
    is_open ≡ true →
    HasToldPrograms is_open o o has_failed
has_programs_none is_open o has_failed e = record {
  notes = [];
  added = subst (λ b. IsWritten [] b o o has_failed) (sym e) (Appends-nil o);
}

-- the same of writers, before and after
pub programs_told : {X : Type 0} (contents : X → Option Text) (failed : X → Bool) (r : Request) (a a' b b' : X)
    (is_open : Bool) → progress_of r ≡ Programs → a ≡ a' → b' ≡ b →
    HasToldPrograms is_open (contents a) (contents b) (failed b) →
    Progresses r (contents a') (contents b') (failed b')
programs_told contents failed r a a' b b' is_open asks from to h =
    let there : HasToldPrograms is_open (contents a') (contents b') (failed b') =
    subst (λ x. HasToldPrograms is_open (contents x) (contents b') (failed b')) from
    (subst (λ y. HasToldPrograms is_open (contents a) (contents y) (failed y)) (sym to) h) in
    subst (λ t. HasToldAs t (contents a') (contents b') (failed b')) (sym asks) (is_open, there)
