-- Where a text is cut at the first line that is empty.
use Rattle.std.proofs.Common.{◌≡◌, ◌∙◌, ◌+◌, ◌<◌, ◌==◌, ◌&&◌, ℕ, suc, Bool, true, false, cond, not, [], ◌∷◌, ◌++◌}
use Rattle.std.proofs.Common.{Option, Some, None, length, get_or, take, drop, refl, sym, ap, subst, arith, eqb-true}
use Rattle.std.proofs.Common.{true≢false, append_assoc}
use Rattle.std.specs.Prelude.{option_map}
use Rattle.std.proofs.lemmas.Bool.{and_parts}
use Rattle.std.proofs.lemmas.List.{drop_at, length-append, take_at}
use Rattle.ls_report.specs.Events.{Text}
use Rattle.ls_report.proofs.CutLemmas.{first_of_two, lacks, none_is, second_of_two, some_is, two}
use Rattle.ls_tallies.specs.Blocks.{block_len, block_parts, parts_at}

some_under : (o : Option ℕ) (j : ℕ) → option_map suc o ≡ Some j → (i : ℕ) × (o ≡ Some i) × (suc i ≡ j)
some_under None j e = absurd (none_is e)
some_under (Some i) j e = (i, refl, some_is e)

-- a line feed stands there
pub record IsCutAt (bs : Text) (n : ℕ) : Type 0 where
  pub within : n < length bs
  pub feed : get_or bs n 0 ≡ 10
  pub back : drop n bs ≡ 10 ∷ drop (n + 1) bs
  pub parts : bs ≡ take n bs ++ 10 ∷ drop (n + 1) bs

pub cut_at_feed : (starts : Bool) (bs : Text) (n : ℕ) → block_len starts bs ≡ Some n → IsCutAt bs n
cut_at_feed starts [] n e = absurd (none_is e)
cut_at_feed starts (b ∷ bs) n e = go (starts && (b == 10)) refl (λ i k. cut_at_feed (b == 10) bs i k) e
  where
    go : (t : Bool) →
        (starts && (b == 10)) ≡ t →
        ((i : ℕ) → block_len (b == 10) bs ≡ Some i → IsCutAt bs i) →
        cond t (Some 0) (option_map suc (block_len (b == 10) bs)) ≡ Some n →
        IsCutAt (b ∷ bs) n
    go true p next k =
        let ten : b ≡ 10 = eqb-true b 10 (and_parts starts (b == 10) p).1 in
        subst (IsCutAt (b ∷ bs)) (some_is k) (record {
          within = omega arith;
          feed = ten;
          back = ap (λ x. x ∷ bs) ten;
          parts = ap (λ x. x ∷ bs) ten;
        })
    go false p next k =
        let q = some_under (block_len (b == 10) bs) n k in
        let i = q.0 in
        let ih = next i q.1 in
        let low = ih.within in
        let one : suc i + 1 ≡ suc (i + 1) = omega arith in
        let rest : drop (suc i + 1) (b ∷ bs) ≡ drop (i + 1) bs = ap (λ m. drop m (b ∷ bs)) one in
        subst (IsCutAt (b ∷ bs)) q.2
        (record {
          within = omega arith;
          feed = ih.feed;
          back = ih.back ∙ ap (λ l. 10 ∷ l) (sym rest);
          parts = ap (λ l. b ∷ l) ih.parts ∙ ap (λ l. b ∷ (take i bs ++ 10 ∷ l)) (sym rest);
        })

-- ---- lines that aren't empty

-- a line feed comes after the first line, which isn't empty if a line starts there
in_line : (starts : Bool) (xs ys : Text) → lacks 10 xs ≡ true → (starts ≡ true → 0 < length xs)
    → block_len starts (xs ++ 10 ∷ ys) ≡ option_map (λ n. (length xs + 1) + n) (block_len true ys)
in_line true [] ys h some = absurd (omega (arith, some refl))
in_line false [] ys h some = ap (λ (f : ℕ → ℕ). option_map f (block_len true ys)) (λ i n. suc_is n i)
  where
    suc_is : (n : ℕ) → suc n ≡ (0 + 1) + n
    suc_is n = omega arith
in_line starts (x ∷ xs) ys h some = go (x == 10) refl (and_parts (not (x == 10)) (lacks 10 xs) h)
    (λ k. in_line false xs ys k (λ e. absurd (true≢false (sym e))))
  where
    twice : (o : Option ℕ) →
        option_map suc (option_map (λ n. (length xs + 1) + n) o) ≡ option_map (λ n. (suc (length xs) + 1) + n) o
    twice None = refl
    twice (Some n) = let e : suc ((length xs + 1) + n) ≡ (suc (length xs) + 1) + n = omega arith in ap (λ m. Some m) e

    no_feed : (s : Bool) → (s && false) ≡ false
    no_feed true = refl
    no_feed false = refl

    go : (t : Bool) → (x == 10) ≡ t → ((not t ≡ true) × (lacks 10 xs ≡ true))
        → (lacks 10 xs ≡ true → block_len false (xs ++ 10 ∷ ys) ≡ option_map (λ n. (length xs + 1) + n)
        (block_len true ys))
        → cond (starts && t) (Some 0) (option_map suc (block_len t (xs ++ 10 ∷ ys))) ≡ option_map
        (λ n. (suc (length xs) + 1) + n) (block_len true ys)
    go true p k next = absurd (true≢false (sym k.0))
    go false p k next =
        ap (λ s. cond s (Some 0) (option_map suc (block_len false (xs ++ 10 ∷ ys)))) (no_feed starts)
        ∙ ap (option_map suc) (next k.1) ∙ twice (block_len true ys)

-- so it is of each of several lines
pub data AreLines : Text → Type 0 where
  NoLine : AreLines []
  OneMore : (xs more : Text) → lacks 10 xs ≡ true → 0 < length xs → AreLines more → AreLines (xs ++ 10 ∷ more)

pub past_lines : (h after : Text) → AreLines h → block_len true (h ++ 10 ∷ after) ≡ Some (length h)
past_lines h after NoLine = refl
past_lines h after (OneMore xs more lack some lines) =
    let split : (xs ++ 10 ∷ more) ++ 10 ∷ after ≡ xs ++ 10 ∷
    (more ++ 10 ∷ after) = append_assoc xs (10 ∷ more) (10 ∷ after) in
    let len : (length xs + 1) + length more ≡ length (xs ++ 10 ∷ more) = omega (arith, length-append xs (10 ∷ more)) in
    ap (block_len true) split ∙ in_line true xs (more ++ 10 ∷ after) lack (λ e. some)
    ∙ ap (option_map (λ n. (length xs + 1) + n)) (past_lines more after lines) ∙ ap (λ n. Some n) len

-- ---- the two parts

pub parts_are : (text a b : Text) (n : ℕ) →
    block_len true text ≡ Some n →
    a ≡ take n text →
    b ≡ drop (n + 1) text →
    two a b ≡ block_parts text
parts_are text a b n e p q = (λ i. two (p i) (q i)) ∙ sym (ap (option_map (parts_at text)) e)

pub parts_join : (text a b : Text) → two a b ≡ block_parts text → text ≡ a ++ 10 ∷ b
parts_join text a b e = go (block_len true text) refl e
  where
    go : (o : Option ℕ) → block_len true text ≡ o → two a b ≡ option_map (parts_at text) o → text ≡ a ++ 10 ∷ b
    go None p k = absurd (none_is (sym k))
    go (Some n) p k =
        let first = first_of_two a b (take n text) (drop (n + 1) text) k in
        let second = second_of_two a b (take n text) (drop (n + 1) text) k in
        (cut_at_feed true text n p).parts ∙ (λ i. sym first i ++ 10 ∷ sym second i)

pub parts_back : (h after : Text) → AreLines h → block_parts (h ++ 10 ∷ after) ≡ two h after
parts_back h after lines =
    let text = h ++ 10 ∷ after in
    let split : (h ++ 10 ∷ []) ++ after ≡ text = append_assoc h (10 ∷ []) after in
    let len : length (h ++ 10 ∷ []) ≡ length h + 1 = omega (arith, length-append h (10 ∷ [])) in
    let front : take (length h) text ≡ h = take_at h (10 ∷ after) (length h) refl in
    let back : drop (length h + 1) text ≡ after = ap (drop (length h + 1)) (sym split) ∙
    drop_at (h ++ 10 ∷ []) after (length h + 1) len in
    ap (option_map (parts_at text)) (past_lines h after lines) ∙ (λ i. two (front i) (back i))
