-- Signs are read as they are spelled, by longest match.
use Rattle.std.proofs.Common.{◌≡◌, ℕ, ◌≤◌, Bool, true, cond, List, [], ◌∷◌, ◌++◌, length, take, Option, Some, None}
use Rattle.std.proofs.Common.{refl, sym, ap, ◌∙◌, subst, inl, inr, arith}
use Rattle.std.specs.Prelude.{◌==◌, ◌&&◌, if◌then◌else◌}
use Rattle.std.proofs.lemmas.Bool.{eqb-true, and_parts, cases_Bool}
use Rattle.ls_lexer.specs.declared.sign.Sign.{Sign}
use Rattle.ls_lexer.specs.declared.sign.Sign.TheVariants as signs
use Rattle.ls_lexer.specs.Signs.{single_of, pair_of, three_of, four_of, sized, or_next, up_to_two, up_to_three, sign_at}
use Rattle.ls_lexer.specs.Spelling.{spelled_sign, IsSpelledThere, IsAsLong, ReadsLongestSigns}

abbrev Reads : List ℕ → Option Sign → Type 0
Reads front o = (s : Sign) → o ≡ Some s → front ≡ spelled_sign s

none : (front : List ℕ) → Reads front None
none front s e = absurd cc

some_is : {A : Type 0} (x y : A) → ◌≡◌ {A = Option A} (Some x) (Some y) → x ≡ y
some_is x y e = cc

one : (front : List ℕ) (test : Bool) (v : Sign) (o : Option Sign) →
    (test ≡ true → front ≡ spelled_sign v) →
    Reads front o →
    Reads front (if test then Some v else o)
one front test v o is rest s e =
    elim (cases_Bool test) [
      | inl h ↦
          let same : Some v ≡ Some s = sym (ap (λ t. cond t (Some v) o) h) ∙ e in
          is h ∙ ap spelled_sign (some_is v s same)
      | inr h ↦ rest s (sym (ap (λ t. cond t (Some v) o) h) ∙ e)
    ]

is1 : (b k : ℕ) → (b == k) ≡ true → b ∷ [] ≡ k ∷ []
is1 b k h = ap (λ (x : ℕ). x ∷ []) (eqb-true b k h)

is2 : (b c k l : ℕ) → (b == k && c == l) ≡ true → b ∷ c ∷ [] ≡ k ∷ l ∷ []
is2 b c k l h =
    let p = and_parts (b == k) (c == l) h in
    let x : b ≡ k = eqb-true b k p.0 in
    let y : c ≡ l = eqb-true c l p.1 in
    λ i. x i ∷ y i ∷ []

is3 : (b c d k l m : ℕ) → (b == k && c == l && d == m) ≡ true → b ∷ c ∷ d ∷ [] ≡ k ∷ l ∷ m ∷ []
is3 b c d k l m h =
    let p = and_parts (b == k && c == l) (d == m) h in
    let front : b ∷ c ∷ [] ≡ k ∷ l ∷ [] = is2 b c k l p.0 in
    let z : d ≡ m = eqb-true d m p.1 in
    λ i. front i ++ z i ∷ []

is4 : (b c d e k l m n : ℕ) → (b == k && c == l && d == m && e == n) ≡ true → b ∷ c ∷ d ∷ e ∷ [] ≡ k ∷ l ∷ m ∷ n ∷ []
is4 b c d e k l m n h =
    let p = and_parts (b == k && c == l && d == m) (e == n) h in
    let front : b ∷ c ∷ d ∷ [] ≡ k ∷ l ∷ m ∷ [] = is3 b c d k l m p.0 in
    let z : e ≡ n = eqb-true e n p.1 in
    λ i. front i ++ z i ∷ []

single_of_reads : (b : ℕ) → Reads (b ∷ []) (single_of b)
single_of_reads b =
    one (b ∷ []) (b == 40) signs.OpenParen _ (is1 b 40)
    (one (b ∷ []) (b == 41) signs.CloseParen _ (is1 b 41)
    (one (b ∷ []) (b == 123) signs.OpenBrace _ (is1 b 123)
    (one (b ∷ []) (b == 125) signs.CloseBrace _ (is1 b 125)
    (one (b ∷ []) (b == 91) signs.OpenBracket _ (is1 b 91)
    (one (b ∷ []) (b == 93) signs.CloseBracket _ (is1 b 93)
    (one (b ∷ []) (b == 59) signs.Semicolon _ (is1 b 59)
    (one (b ∷ []) (b == 44) signs.Comma _ (is1 b 44)
    (one (b ∷ []) (b == 46) signs.Dot _ (is1 b 46)
    (one (b ∷ []) (b == 64) signs.At _ (is1 b 64)
    (one (b ∷ []) (b == 61) signs.Assign _ (is1 b 61)
    (one (b ∷ []) (b == 62) signs.Greater _ (is1 b 62)
    (one (b ∷ []) (b == 60) signs.Less _ (is1 b 60)
    (one (b ∷ []) (b == 33) signs.Not _ (is1 b 33)
    (one (b ∷ []) (b == 126) signs.Tilde _ (is1 b 126)
    (one (b ∷ []) (b == 63) signs.Question _ (is1 b 63)
    (one (b ∷ []) (b == 58) signs.Colon _ (is1 b 58)
    (one (b ∷ []) (b == 43) signs.Plus _ (is1 b 43)
    (one (b ∷ []) (b == 45) signs.Minus _ (is1 b 45)
    (one (b ∷ []) (b == 42) signs.Star _ (is1 b 42)
    (one (b ∷ []) (b == 47) signs.Slash _ (is1 b 47)
    (one (b ∷ []) (b == 38) signs.BitAnd _ (is1 b 38)
    (one (b ∷ []) (b == 124) signs.BitOr _ (is1 b 124)
    (one (b ∷ []) (b == 94) signs.Caret _ (is1 b 94)
    (one (b ∷ []) (b == 37) signs.Percent _ (is1 b 37)
    (none (b ∷ []))))))))))))))))))))))))))

pair_of_reads : (b c : ℕ) → Reads (b ∷ c ∷ []) (pair_of b c)
pair_of_reads b c =
    one (b ∷ c ∷ []) (b == 58 && c == 58) signs.ColonColon _ (is2 b c 58 58)
    (one (b ∷ c ∷ []) (b == 45 && c == 62) signs.Arrow _ (is2 b c 45 62)
    (one (b ∷ c ∷ []) (b == 61 && c == 61) signs.Equal _ (is2 b c 61 61)
    (one (b ∷ c ∷ []) (b == 62 && c == 61) signs.GreaterEqual _ (is2 b c 62 61)
    (one (b ∷ c ∷ []) (b == 60 && c == 61) signs.LessEqual _ (is2 b c 60 61)
    (one (b ∷ c ∷ []) (b == 33 && c == 61) signs.NotEqual _ (is2 b c 33 61)
    (one (b ∷ c ∷ []) (b == 38 && c == 38) signs.And _ (is2 b c 38 38)
    (one (b ∷ c ∷ []) (b == 124 && c == 124) signs.Or _ (is2 b c 124 124)
    (one (b ∷ c ∷ []) (b == 43 && c == 43) signs.Increment _ (is2 b c 43 43)
    (one (b ∷ c ∷ []) (b == 45 && c == 45) signs.Decrement _ (is2 b c 45 45)
    (one (b ∷ c ∷ []) (b == 60 && c == 60) signs.ShiftLeft _ (is2 b c 60 60)
    (one (b ∷ c ∷ []) (b == 62 && c == 62) signs.ShiftRight _ (is2 b c 62 62)
    (one (b ∷ c ∷ []) (b == 43 && c == 61) signs.PlusAssign _ (is2 b c 43 61)
    (one (b ∷ c ∷ []) (b == 45 && c == 61) signs.MinusAssign _ (is2 b c 45 61)
    (one (b ∷ c ∷ []) (b == 42 && c == 61) signs.StarAssign _ (is2 b c 42 61)
    (one (b ∷ c ∷ []) (b == 47 && c == 61) signs.SlashAssign _ (is2 b c 47 61)
    (one (b ∷ c ∷ []) (b == 38 && c == 61) signs.BitAndAssign _ (is2 b c 38 61)
    (one (b ∷ c ∷ []) (b == 124 && c == 61) signs.BitOrAssign _ (is2 b c 124 61)
    (one (b ∷ c ∷ []) (b == 94 && c == 61) signs.CaretAssign _ (is2 b c 94 61)
    (one (b ∷ c ∷ []) (b == 37 && c == 61) signs.PercentAssign _ (is2 b c 37 61)
    (none (b ∷ c ∷ [])))))))))))))))))))))

three_of_reads : (b c d : ℕ) → Reads (b ∷ c ∷ d ∷ []) (three_of b c d)
three_of_reads b c d =
    one (b ∷ c ∷ d ∷ []) (b == 46 && c == 46 && d == 46) signs.Ellipsis _ (is3 b c d 46 46 46)
    (one (b ∷ c ∷ d ∷ []) (b == 62 && c == 62 && d == 62) signs.UnsignedShiftRight _ (is3 b c d 62 62 62)
    (one (b ∷ c ∷ d ∷ []) (b == 60 && c == 60 && d == 61) signs.ShiftLeftAssign _ (is3 b c d 60 60 61)
    (one (b ∷ c ∷ d ∷ []) (b == 62 && c == 62 && d == 61) signs.ShiftRightAssign _ (is3 b c d 62 62 61)
    (none (b ∷ c ∷ d ∷ [])))))

four_of_reads : (b c d e : ℕ) → Reads (b ∷ c ∷ d ∷ e ∷ []) (four_of b c d e)
four_of_reads b c d e =
    one (b ∷ c ∷ d ∷ e ∷ []) (b == 62 && c == 62 && d == 62 && e == 61) signs.UnsignedShiftRightAssign _
    (is4 b c d e 62 62 62 61)
    (none (b ∷ c ∷ d ∷ e ∷ []))

abbrev Found : List ℕ → Option (Sign × ℕ) → Type 0
Found text o = (found : Sign × ℕ) → o ≡ Some found → IsSpelledThere text found

sized_found : (n : ℕ) (o : Option Sign) (front text : List ℕ) →
    Reads front o →
    take n text ≡ front →
    length front ≡ n →
    Found text (sized n o)
sized_found n None front text reads is size found e = absurd cc
sized_found n (Some s) front text reads is size found e =
    let spelled : front ≡ spelled_sign s = reads s refl in
    subst (IsSpelledThere text) (some_is (s, n) found e) (
      sym size ∙ ap (λ (l : List ℕ). length l) spelled,
      is ∙
          spelled,
    )

or_found : (text : List ℕ) (a b : Option (Sign × ℕ)) → Found text a → Found text b → Found text (or_next a b)
or_found text None b f g found e = g found e
or_found text (Some a) b f g found e = f found e

one_found : (b : ℕ) (bs : List ℕ) → Found (b ∷ bs) (sized 1 (single_of b))
one_found b bs = sized_found 1 (single_of b) (b ∷ []) (b ∷ bs) (single_of_reads b) refl refl

two_found : (b : ℕ) (bs : List ℕ) → Found (b ∷ bs) (up_to_two b bs)
two_found b [] = one_found b []
two_found b (c ∷ bs) =
    or_found (b ∷ c ∷ bs) _ _ (sized_found 2 (pair_of b c) (b ∷ c ∷ []) (b ∷ c ∷ bs) (pair_of_reads b c) refl refl)
    (one_found b (c ∷ bs))

three_found : (b : ℕ) (bs : List ℕ) → Found (b ∷ bs) (up_to_three b bs)
three_found b [] = two_found b []
three_found b (c ∷ []) = two_found b (c ∷ [])
three_found b (c ∷ d ∷ bs) =
    or_found (b ∷ c ∷ d ∷ bs) _ _
    (sized_found 3 (three_of b c d) (b ∷ c ∷ d ∷ []) (b ∷ c ∷ d ∷ bs) (three_of_reads b c d) refl refl)
    (two_found b (c ∷ d ∷ bs))

four_found : (b : ℕ) (bs : List ℕ) → Found (b ∷ bs) (sign_at b bs)
four_found b [] = three_found b []
four_found b (c ∷ []) = three_found b (c ∷ [])
four_found b (c ∷ d ∷ []) = three_found b (c ∷ d ∷ [])
four_found b (c ∷ d ∷ e ∷ bs) =
    or_found (b ∷ c ∷ d ∷ e ∷ bs) _ _
    (sized_found 4 (four_of b c d e) (b ∷ c ∷ d ∷ e ∷ []) (b ∷ c ∷ d ∷ e ∷ bs) (four_of_reads b c d e) refl refl)
    (three_found b (c ∷ d ∷ e ∷ bs))

-- a sign of at least this many bytes is found
abbrev Least : ℕ → Option (Sign × ℕ) → Type 0
Least n o = (found : Sign × ℕ) × (o ≡ Some found) × (n ≤ found.1)

here : (n : ℕ) (o : Option Sign) (s : Sign) → o ≡ Some s → Least n (sized n o)
here n o s e = ((s, n), ap (sized n) e, omega arith)

or_here : (n : ℕ) (o : Option Sign) (s : Sign) (next : Option (Sign × ℕ)) →
    o ≡ Some s →
    Least n (or_next (sized n o) next)
or_here n o s next e = ((s, n), ap (λ (x : Option Sign). or_next (sized n x) next) e, omega arith)

or_later : (n k : ℕ) (o : Option Sign) (next : Option (Sign × ℕ)) →
    k ≤ n →
    Least k next →
    Least k (or_next (sized n o) next)
or_later n k None next le least = least
or_later n k (Some s) next le least = ((s, n), refl, le)

two_least : (b : ℕ) (bs : List ℕ) (s : Sign) → single_of b ≡ Some s → Least 1 (up_to_two b bs)
two_least b [] s e = here 1 (single_of b) s e
two_least b (c ∷ bs) s e = or_later 2 1 (pair_of b c) _ (omega arith) (here 1 (single_of b) s e)

three_least : (k b : ℕ) (bs : List ℕ) → k ≤ 3 → Least k (up_to_two b bs) → Least k (up_to_three b bs)
three_least k b [] le least = least
three_least k b (c ∷ []) le least = least
three_least k b (c ∷ d ∷ bs) le least = or_later 3 k (three_of b c d) _ le least

four_least : (k b : ℕ) (bs : List ℕ) → k ≤ 4 → Least k (up_to_three b bs) → Least k (sign_at b bs)
four_least k b [] le least = least
four_least k b (c ∷ []) le least = least
four_least k b (c ∷ d ∷ []) le least = least
four_least k b (c ∷ d ∷ e ∷ bs) le least = or_later 4 k (four_of b c d e) _ le least

at_one : (b : ℕ) (bs : List ℕ) (s : Sign) → single_of b ≡ Some s → Least 1 (sign_at b bs)
at_one b bs s e = four_least 1 b bs (omega arith) (three_least 1 b bs (omega arith) (two_least b bs s e))

at_two : (b c : ℕ) (bs : List ℕ) (s : Sign) → pair_of b c ≡ Some s → Least 2 (sign_at b (c ∷ bs))
at_two b c bs s e =
    four_least 2 b (c ∷ bs) (omega arith) (three_least 2 b (c ∷ bs) (omega arith) (or_here 2 (pair_of b c) s _ e))

at_three : (b c d : ℕ) (bs : List ℕ) (s : Sign) → three_of b c d ≡ Some s → Least 3 (sign_at b (c ∷ d ∷ bs))
at_three b c d bs s e = four_least 3 b (c ∷ d ∷ bs) (omega arith) (or_here 3 (three_of b c d) s _ e)

at_four : (b c d e : ℕ) (bs : List ℕ) (s : Sign) → four_of b c d e ≡ Some s → Least 4 (sign_at b (c ∷ d ∷ e ∷ bs))
at_four b c d e bs s f = or_here 4 (four_of b c d e) s _ f

abbrev sign_in : List ℕ → Option (Sign × ℕ)
sign_in [] = None
sign_in (b ∷ bs) = sign_at b bs

as_long : (s : Sign) (rest : List ℕ) → IsAsLong s (sign_in (spelled_sign s ++ rest))
as_long signs.OpenParen rest = at_one 40 rest signs.OpenParen refl
as_long signs.CloseParen rest = at_one 41 rest signs.CloseParen refl
as_long signs.OpenBrace rest = at_one 123 rest signs.OpenBrace refl
as_long signs.CloseBrace rest = at_one 125 rest signs.CloseBrace refl
as_long signs.OpenBracket rest = at_one 91 rest signs.OpenBracket refl
as_long signs.CloseBracket rest = at_one 93 rest signs.CloseBracket refl
as_long signs.Semicolon rest = at_one 59 rest signs.Semicolon refl
as_long signs.Comma rest = at_one 44 rest signs.Comma refl
as_long signs.Dot rest = at_one 46 rest signs.Dot refl
as_long signs.Ellipsis rest = at_three 46 46 46 rest signs.Ellipsis refl
as_long signs.At rest = at_one 64 rest signs.At refl
as_long signs.ColonColon rest = at_two 58 58 rest signs.ColonColon refl
as_long signs.Assign rest = at_one 61 rest signs.Assign refl
as_long signs.Greater rest = at_one 62 rest signs.Greater refl
as_long signs.Less rest = at_one 60 rest signs.Less refl
as_long signs.Not rest = at_one 33 rest signs.Not refl
as_long signs.Tilde rest = at_one 126 rest signs.Tilde refl
as_long signs.Question rest = at_one 63 rest signs.Question refl
as_long signs.Colon rest = at_one 58 rest signs.Colon refl
as_long signs.Arrow rest = at_two 45 62 rest signs.Arrow refl
as_long signs.Equal rest = at_two 61 61 rest signs.Equal refl
as_long signs.GreaterEqual rest = at_two 62 61 rest signs.GreaterEqual refl
as_long signs.LessEqual rest = at_two 60 61 rest signs.LessEqual refl
as_long signs.NotEqual rest = at_two 33 61 rest signs.NotEqual refl
as_long signs.And rest = at_two 38 38 rest signs.And refl
as_long signs.Or rest = at_two 124 124 rest signs.Or refl
as_long signs.Increment rest = at_two 43 43 rest signs.Increment refl
as_long signs.Decrement rest = at_two 45 45 rest signs.Decrement refl
as_long signs.Plus rest = at_one 43 rest signs.Plus refl
as_long signs.Minus rest = at_one 45 rest signs.Minus refl
as_long signs.Star rest = at_one 42 rest signs.Star refl
as_long signs.Slash rest = at_one 47 rest signs.Slash refl
as_long signs.BitAnd rest = at_one 38 rest signs.BitAnd refl
as_long signs.BitOr rest = at_one 124 rest signs.BitOr refl
as_long signs.Caret rest = at_one 94 rest signs.Caret refl
as_long signs.Percent rest = at_one 37 rest signs.Percent refl
as_long signs.ShiftLeft rest = at_two 60 60 rest signs.ShiftLeft refl
as_long signs.ShiftRight rest = at_two 62 62 rest signs.ShiftRight refl
as_long signs.UnsignedShiftRight rest = at_three 62 62 62 rest signs.UnsignedShiftRight refl
as_long signs.PlusAssign rest = at_two 43 61 rest signs.PlusAssign refl
as_long signs.MinusAssign rest = at_two 45 61 rest signs.MinusAssign refl
as_long signs.StarAssign rest = at_two 42 61 rest signs.StarAssign refl
as_long signs.SlashAssign rest = at_two 47 61 rest signs.SlashAssign refl
as_long signs.BitAndAssign rest = at_two 38 61 rest signs.BitAndAssign refl
as_long signs.BitOrAssign rest = at_two 124 61 rest signs.BitOrAssign refl
as_long signs.CaretAssign rest = at_two 94 61 rest signs.CaretAssign refl
as_long signs.PercentAssign rest = at_two 37 61 rest signs.PercentAssign refl
as_long signs.ShiftLeftAssign rest = at_three 60 60 61 rest signs.ShiftLeftAssign refl
as_long signs.ShiftRightAssign rest = at_three 62 62 61 rest signs.ShiftRightAssign refl
as_long signs.UnsignedShiftRightAssign rest = at_four 62 62 62 61 rest signs.UnsignedShiftRightAssign refl

-- the law: the longest sign is read
pub reads_longest_signs : ReadsLongestSigns
reads_longest_signs =
    (four_found, λ b bs rest sign is. subst (λ (l : List ℕ). IsAsLong sign (sign_in l)) (sym is) (as_long sign rest))
