-- The lines of the steps that are left.
use Rattle.std.proofs.Common.{◌≡◌, ℕ, ◌+◌, ◌<◌, ◌≤◌, Bool, true, false, List, [], ◌∷◌, ◌++◌, length, drop, get_or, sym}
use Rattle.std.proofs.Common.{ap, ◌∙◌}
use Rattle.std.specs.Prelude.{bytes_eq, flat_map, nat_le, if◌then◌else◌}
use Rattle.std.proofs.lemmas.List.{append_assoc, append-nil, drop_all, drop_more}
use Rattle.ls_report.specs.Events.{Text}
use Rattle.ls_labels.specs.Names.{Names}
use Rattle.ls_trace.specs.Told.{Told, after_step}
use Rattle.ls_page.specs.Changes.{Line, changed, line_of, line_text, lines_of}
use Rattle.ls_page.specs.SeenChanges.{text_told, words_told}

-- the lines so far and those of the steps that are left
abbrev pub rest_of : Names → ℕ → ℕ → Told → Text → Text → List ℕ → Text
rest_of names from number r text words ts =
    text ++ flat_map line_text (changed words (lines_of names from number r ts))

one_more : (is_told : Bool) (words : Text) (l : Line) (ls : List Line) (text : Text) →
    (text ++ text_told is_told words l) ++ flat_map line_text (changed (words_told is_told words l) ls)
    ≡ text ++ flat_map line_text (changed words ((if is_told then l ∷ [] else []) ++ ls))
one_more false words l ls text = ap (λ t. t ++ flat_map line_text (changed words ls)) (append-nil text)
one_more true words l ls text = by_same (bytes_eq words l.words)
  where
    by_same : (b : Bool) →
        (text ++ (if b then [] else line_text l)) ++ flat_map line_text (changed l.words ls)
        ≡ text ++ flat_map line_text ((if b then [] else l ∷ []) ++ changed l.words ls)
    by_same true = ap (λ t. t ++ flat_map line_text (changed l.words ls)) (append-nil text)
    by_same false = append_assoc text (line_text l) (flat_map line_text (changed l.words ls))

-- after one more step
pub rest_after : (names : Names) (from number i d : ℕ) (r r' : Told) (ts : List ℕ)
    (text text' words words' whole : Text) →
    i < length ts →
    r' ≡ after_step names r (get_or ts i d) →
    text' ≡ text ++ text_told (nat_le from number) words (line_of names number r (get_or ts i d)) →
    words' ≡ words_told (nat_le from number) words (line_of names number r (get_or ts i d)) →
    rest_of names from number r text words (drop i ts) ≡ whole →
    rest_of names from (number + 1) r' text' words' (drop (i + 1) ts) ≡ whole
rest_after names from number i d r r' ts text text' words words' whole within er et ew h =
    let t = get_or ts i d in
    let l = line_of names number r t in
    let left = drop (i + 1) ts in
    ap (λ x. rest_of names from (number + 1) r' x words' left) et
    ∙ ap (λ x. rest_of names from (number + 1) r' (text ++ text_told (nat_le from number) words l) x left) ew
    ∙ ap (λ x. rest_of names from (number + 1) x (text ++ text_told (nat_le from number) words l)
    (words_told (nat_le from number) words l) left) er
    ∙ one_more (nat_le from number) words l (lines_of names from (number + 1) (after_step names r t) left) text
    ∙ ap (rest_of names from number r text words) (sym (drop_more ts i d within))
    ∙ h

-- where no steps are left
pub at_end : (names : Names) (from number i : ℕ) (r : Told) (text words : Text) (ts : List ℕ) →
    length ts ≤ i → text ≡ rest_of names from number r text words (drop i ts)
at_end names from number i r text words ts h =
    sym (ap (rest_of names from number r text words) (drop_all i ts h) ∙ append-nil text)

pub at_start : (names : Names) (from : ℕ) (r first : Told) (text words : Text) (ts : List ℕ) →
    r ≡ first → text ≡ [] → words ≡ [] →
    rest_of names from 1 r text words ts ≡ flat_map line_text (changed [] (lines_of names from 1 first ts))
at_start names from r first text words ts er et ew =
    ap (λ x. rest_of names from 1 x text words ts) er ∙ ap (λ x. rest_of names from 1 first x words ts) et
    ∙ ap (λ x. rest_of names from 1 first [] x ts) ew
