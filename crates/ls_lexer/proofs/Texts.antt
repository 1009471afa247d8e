-- The loop over a text.
use Rattle.std.proofs.Common.{◌≡◌, ℕ, zero, suc, ◌+◌, ◌<◌, ◌≤◌, Bool, true, false, cond, List, [], ◌∷◌, ◌++◌, length}
use Rattle.std.proofs.Common.{take, drop, Option, Some, None, IsUtf8, refl, sym, ap, ◌∙◌, subst, arith, append_assoc}
use Rattle.std.proofs.Common.{length-drop}
use Rattle.std.specs.Prelude.{◌==◌, ◌&&◌}
use Rattle.std.specs.Str.{IsCharBoundary}
use Rattle.std.proofs.lemmas.Bool.{eqb-true, true≢false}
use Rattle.std.proofs.iter.FirstChar.{cut}
use Rattle.std.proofs.lemmas.List.{append-nil, drop-drop}
use Rattle.ls_lexer.specs.declared.token.Span.{Span}
use Rattle.ls_lexer.specs.declared.token.Token.{Token}
use Rattle.ls_lexer.specs.declared.token.TokenKind.{TokenKind}
use Rattle.ls_lexer.specs.declared.fault.TextFault.{TextFault}
use Rattle.ls_lexer.specs.declared.fault.TextFault.TheVariants as faults
use Rattle.ls_lexer.specs.Characters.{is_digit}
use Rattle.ls_lexer.specs.Lexemes.{Lexeme, lexeme_of, lexemes}
use Rattle.ls_lexer.specs.Tokens.{◌>>=◌, piece_at, with_piece, lexed, tokens_of, begins}
use Rattle.ls_lexer.specs.Places.{Splits, here, gap, token, fault_at, StandsAt, Refused, StandsThere, InOrder}
use Rattle.ls_lexer.specs.Pieces.{maybe_lexeme, placed, IsPieceSlice}

abbrev pub listed : Option Lexeme → List Lexeme
listed None = []
listed (Some k) = k ∷ []

abbrev pub with_front : List Lexeme → Option (List Lexeme) → Option (List Lexeme)
with_front front o = o >>= λ ks. Some (front ++ ks)

with_nothing : (o : Option (List Lexeme)) → with_front [] o ≡ o
with_nothing None = refl
with_nothing (Some x) = refl

snoc_gap : {text rest : List ℕ} {ks : List Lexeme} (n : ℕ) →
    Splits text ks rest →
    piece_at rest ≡ Some (None, n) →
    Splits text ks (drop n rest)
snoc_gap n here e = gap n e here
snoc_gap n (gap m f s) e = gap m f (snoc_gap n s e)
snoc_gap n (token k m f s) e = token k m f (snoc_gap n s e)

snoc_token : {text rest : List ℕ} {ks : List Lexeme} (k : Lexeme) (n : ℕ) →
    Splits text ks rest →
    piece_at rest ≡ Some (Some k, n) →
    Splits text (ks ++ k ∷ []) (drop n rest)
snoc_token k n here e = token k n e here
snoc_token k n (gap m f s) e = gap m f (snoc_token k n s e)
snoc_token k n (token j m f s) e = token j m f (snoc_token k n s e)

snoc : {text rest : List ℕ} {ks : List Lexeme} (o : Option Lexeme) (n : ℕ) →
    Splits text ks rest →
    piece_at rest ≡ Some (o, n) →
    Splits text (ks ++ listed o) (drop n rest)
snoc {text} {rest} {ks} None n s e =
    subst (λ (l : List Lexeme). Splits text l (drop n rest)) (sym (append-nil ks)) (snoc_gap n s e)
snoc (Some k) n s e = snoc_token k n s e

regroup : (front : List Lexeme) (o : Option Lexeme) (r : Option (List Lexeme)) →
    with_front front (with_piece o r) ≡ with_front (front ++ listed o) r
regroup front None None = refl
regroup front None (Some ks) = ap (λ (l : List Lexeme). Some (l ++ ks)) (sym (append-nil front))
regroup front (Some k) None = refl
regroup front (Some k) (Some ks) = ap Some (sym (append_assoc front (k ∷ []) ks))

ended : (front : List Lexeme) (rest : List ℕ) (whole : Option (List Lexeme)) (turns : ℕ) →
    length rest < turns →
    with_front front (lexed turns rest) ≡ whole →
    length rest ≡ 0 →
    whole ≡ Some front
unfolding lexed
ended front rest whole zero bound same h = absurd (omega arith)
ended front [] whole (suc turns) bound same h = sym same ∙ ap Some (append-nil front)
ended front (b ∷ bs) whole (suc turns) bound same h = absurd (omega arith)

turn : (front : List Lexeme) (b : ℕ) (bs : List ℕ) (turns : ℕ) (o : Option Lexeme) (n : ℕ) →
    piece_at (b ∷ bs) ≡ Some (o, n) →
    with_front front (lexed (suc turns) (b ∷ bs)) ≡ with_front (front ++ listed o) (lexed turns (drop n (b ∷ bs)))
unfolding lexed
turn front b bs turns o n e =
    ap (λ (p : Option (Option Lexeme × ℕ)). with_front front
    (p >>= λ q. with_piece q.0 (lexed turns (drop q.1 (b ∷ bs))))) e ∙ regroup front o (lexed turns (drop n (b ∷ bs)))

same_on :
    (front : List Lexeme) (rest : List ℕ) (whole : Option (List Lexeme)) (turns : ℕ) (o : Option Lexeme) (n : ℕ) →
    length rest < turns →
    with_front front (lexed turns rest) ≡ whole →
    0 < n →
    n ≤ length rest →
    piece_at rest ≡ Some (o, n)
    → (turns' : ℕ) × (length (drop n rest) < turns') ×
    (with_front (front ++ listed o) (lexed turns' (drop n rest)) ≡ whole)
same_on front rest whole zero o n bound same pos le e = absurd (omega arith)
same_on front [] whole (suc turns) o n bound same pos le e = absurd (omega arith)
same_on front (b ∷ bs) whole (suc turns) o n bound same pos le e =
    (turns, omega (arith, length-drop n (b ∷ bs)), sym (turn front b bs turns o n e) ∙ same)

-- the fault there says that place
at_cond : (c d : Bool) (at : ℕ) (P : TextFault → Type 0) →
    P (faults.OpenComment at) →
    P (faults.BadNumber at) →
    P (faults.BadByte at) →
    P (cond c (faults.OpenComment at) (cond d (faults.BadNumber at) (faults.BadByte at)))
at_cond true d at P x y z = x
at_cond false true at P x y z = y
at_cond false false at P x y z = z

at_each : (rest : List ℕ) (at : ℕ) (P : TextFault → Type 0) →
    P (faults.OpenComment at) →
    P (faults.BadNumber at) →
    P (faults.BadByte at) →
    P (fault_at at rest)
at_each [] at P x y z = z
at_each (b ∷ bs) at P x y z = at_cond (b == 47 && begins 42 bs) (is_digit b) at P x y z

-- a text that isn't empty has a byte
pub not_empty : (xs : List ℕ) → false ≡ (length xs == 0) → 0 < length xs
not_empty [] h = absurd (true≢false (sym h))
not_empty (x ∷ xs) h = omega arith

-- an empty text has no byte
pub empty : (xs : List ℕ) → true ≡ (length xs == 0) → length xs ≡ 0
empty xs h = eqb-true (length xs) 0 (sym h)

lexemes_append : (ts us : List Token) → lexemes (ts ++ us) ≡ lexemes ts ++ lexemes us
lexemes_append [] us = refl
lexemes_append (t ∷ ts) us = ap (λ (ks : List Lexeme). lexeme_of t.kind ∷ ks) (lexemes_append ts us)

placed_lexemes : (kind : Option TokenKind) (span : Span) → lexemes (placed kind span) ≡ listed (maybe_lexeme kind)
placed_lexemes None span = refl
placed_lexemes (Some kind) span = refl

-- The tokens of the text are those so far, and those of the rest, which begins at a place.
pub record InText (text : List ℕ) (so_far : List Token) (rest : List ℕ) (at : ℕ) : Type 0 where
  pub turns : ℕ
  pub bound : length rest < turns
  pub same : with_front (lexemes so_far) (lexed turns rest) ≡ tokens_of text
  pub place : rest ≡ drop at text
  pub within : at + length rest ≡ length text
  pub split : Splits text (lexemes so_far) rest
  pub order : InOrder text 0 so_far at
  pub utf8 : IsUtf8 rest

-- at the beginning of a text no token is read
pub text_begins : (text : List ℕ) → IsUtf8 text → InText text [] text 0
text_begins text utf8 =
    record {
      turns = length text + 1;
      bound = omega arith;
      same = with_nothing (tokens_of text);
      place = refl;
      within =
          omega arith;
      split = here;
      order = omega arith;
      utf8 = utf8;
    }

-- at the end of a text its tokens are those so far
pub text_ends : {text : List ℕ} {so_far : List Token} {rest : List ℕ} {at : ℕ} →
    InText text so_far rest at →
    length rest ≡ 0 →
    tokens_of text ≡ Some (lexemes so_far)
text_ends {text} {so_far} {rest} {at} t h = ended (lexemes so_far) rest (tokens_of text) t.turns t.bound t.same h

nothing : (rest : List ℕ) → length rest ≡ 0 → rest ≡ []
nothing [] h = refl
nothing (b ∷ bs) h = absurd (omega arith)

-- at the end of a text it splits into gaps and those tokens
pub text_split : {text : List ℕ} {so_far : List Token} {rest : List ℕ} {at : ℕ} →
    InText text so_far rest at →
    length rest ≡ 0 →
    Splits text (lexemes so_far) []
text_split {text} {so_far} {rest} {at} t h = subst (Splits text (lexemes so_far)) (nothing rest h) t.split

-- at the end of a text the tokens are at their spans
pub text_order : {text : List ℕ} {so_far : List Token} {rest : List ℕ} {at : ℕ} →
    InText text so_far rest at →
    length rest ≡ 0 →
    InOrder text 0 so_far (length text)
text_order {text} {so_far} {rest} {at} t h =
    let is : at ≡ length text = omega (arith, t.within, h) in
    subst (InOrder text 0 so_far) is t.order

later : (text : List ℕ) (from : ℕ) (ts : List Token) (upto upto' : ℕ) →
    upto ≤ upto' →
    InOrder text from ts upto →
    InOrder text from ts upto'
later text from [] upto upto' le o = omega (arith, o)
later text from (t ∷ ts) upto upto' le o = (o.0, o.1, o.2, later text t.span.end ts upto upto' le o.3)

one_more : (text : List ℕ) (from : ℕ) (ts : List Token) (upto : ℕ) (t : Token) →
    InOrder text from ts upto →
    upto ≤ t.span.start →
    t.span.start < t.span.end →
    StandsThere text t →
    InOrder text from (ts ++ t ∷ []) t.span.end
one_more text from [] upto t o le lt s = (omega (arith, o), lt, s, omega arith)
one_more text from (u ∷ us) upto t o le lt s = (o.0, o.1, o.2, one_more text u.span.end us upto t o.3 le lt s)

-- the next gap or token comes after those so far
order_on : (text : List ℕ) (ts : List Token) (at n : ℕ) (kind : Option TokenKind) →
    InOrder text 0 ts at →
    0 < n →
    at + n ≤ length text →
    piece_at (drop at text) ≡ Some (maybe_lexeme kind, n) →
    IsPieceSlice (take n (drop at text)) kind
    → InOrder text 0 (ts ++ placed kind (record { start = at; end = at + n })) (at + n)
order_on text ts at n None o pos le e s =
    subst (λ (us : List Token). InOrder text 0 us (at + n)) (sym (append-nil ts))
    (later text 0 ts at (at + n) (omega arith) o)
order_on text ts at n (Some kind) o pos le e s =
    let t : Token = record { kind = kind; span = record { start = at; end = at + n } } in
    one_more text 0 ts at t o (omega arith) (omega arith)
    (record { size = n; reaches = refl; within = le; read = e; slice = s })

-- one gap or token more is read
pub text_goes_on :
    {text : List ℕ} {so_far : List Token} {rest : List ℕ} {at : ℕ} (kind : Option TokenKind) (n : ℕ) (next : List Token)
    (after : List ℕ) →
    InText text so_far rest at →
    0 < n →
    IsCharBoundary rest n
    → piece_at rest ≡ Some (maybe_lexeme kind, n) → IsPieceSlice (take n rest) kind →
    next ≡ so_far ++ placed kind (record { start = at; end = at + n }) → after ≡ drop n rest →
    InText text next after (at + n)
text_goes_on {text} {so_far} {rest} {at} kind n next after t pos boundary e slice next-is after-is =
    let le : n ≤ length rest = boundary.0 in
    let front : List Lexeme = lexemes so_far ++ listed (maybe_lexeme kind) in
    let here-is : Span = record { start = at; end = at + n } in
    let s = same_on (lexemes so_far) rest (tokens_of text) t.turns (maybe_lexeme kind) n t.bound t.same pos le e in
    let is : front ≡ lexemes (so_far ++ placed kind here-is) =
    sym (lexemes_append so_far (placed kind here-is) ∙
    ap (λ (l : List Lexeme). lexemes so_far ++ l) (placed_lexemes kind here-is)) in
    let read : piece_at (drop at text) ≡ Some (maybe_lexeme kind, n) = ap piece_at (sym t.place) ∙ e in
    let cut_there : IsPieceSlice (take n (drop at text)) kind =
    subst (λ (r : List ℕ). IsPieceSlice (take n r) kind) t.place slice in
    subst (λ (l : List Token). InText text l after (at + n)) (sym next-is)
    (subst (λ (r : List ℕ). InText text (so_far ++ placed kind here-is) r (at + n)) (sym after-is)
    (record {
      turns = s.0;
      bound = s.1;
      same = subst (λ (l : List Lexeme). with_front l (lexed s.0 (drop n rest)) ≡ tokens_of text) is s.2;
      place = ap (drop n) t.place ∙ drop-drop n at text;
      within = omega (arith, length-drop n rest, t.within);
      split = subst (λ (l : List Lexeme). Splits text l (drop n rest)) is (snoc (maybe_lexeme kind) n t.split e);
      order = order_on text so_far at n kind t.order pos (omega (arith, t.within, le)) read cut_there;
      utf8 = (cut rest n t.utf8 boundary).1;
    }))

failed : (front : List Lexeme) (rest : List ℕ) (turns : ℕ) →
    length rest < turns →
    0 < length rest →
    piece_at rest ≡ None →
    with_front front (lexed turns rest) ≡ None
unfolding lexed
failed front rest zero bound pos e = absurd (omega arith)
failed front [] (suc turns) bound pos e = absurd (omega arith)
failed front (b ∷ bs) (suc turns) bound pos e =
    ap (λ (p : Option (Option Lexeme × ℕ)). with_front front
    (p >>= λ q. with_piece q.0 (lexed turns (drop q.1 (b ∷ bs))))) e

refused_at : (text : List ℕ) (at : ℕ) (f : TextFault) →
    StandsAt text at f →
    tokens_of text ≡ None →
    f ≡ fault_at at (drop at text) →
    Refused text f
refused_at text at f s none e =
    let Q : TextFault → Type 0 = λ g. StandsAt text at g → Refused text g in
    subst Q (sym e) (at_each (drop at text) at Q (λ x. (x, none)) (λ x. (x, none)) (λ x. (x, none))) s

-- if no gap and no token begins, the text is refused
pub text_fails : {text : List ℕ} {so_far : List Token} {rest : List ℕ} {at : ℕ} (f : TextFault) →
    InText text so_far rest at →
    0 < length rest →
    piece_at rest ≡ None →
    f ≡ fault_at at rest →
    Refused text f
text_fails {text} {so_far} {rest} {at} f t pos none e =
    let s : StandsAt text at f = (
      lexemes so_far,
      subst (Splits text (lexemes so_far)) t.place t.split,
      ap piece_at (sym t.place) ∙ none,
      e ∙
          ap (fault_at at) t.place,
    ) in
    refused_at text at f s (sym t.same ∙ failed (lexemes so_far) rest t.turns t.bound pos none) s.3
