-- Separators (JLS 3.11) and operators (JLS 3.12), by longest match (JLS 3.2).
use Rattle.std.specs.Prelude.{ℕ, ◌==◌, ◌&&◌, List, [], ◌∷◌, Option, Some, None, if◌then◌else◌}
use Rattle.ls_lexer.specs.declared.sign.Sign.{Sign}
use Rattle.ls_lexer.specs.declared.sign.Sign.TheVariants as signs

abbrev pub four_of : ℕ → ℕ → ℕ → ℕ → Option Sign
four_of b c d e =
    if b == 62 && c == 62 && d == 62 && e == 61 then Some signs.UnsignedShiftRightAssign
    else None

abbrev pub three_of : ℕ → ℕ → ℕ → Option Sign
three_of b c d =
    if b == 46 && c == 46 && d == 46 then Some signs.Ellipsis
    else (if b == 62 && c == 62 && d == 62 then Some signs.UnsignedShiftRight
    else (if b == 60 && c == 60 && d == 61 then Some signs.ShiftLeftAssign
    else (if b == 62 && c == 62 && d == 61 then Some signs.ShiftRightAssign
    else None)))

abbrev pub pair_of : ℕ → ℕ → Option Sign
pair_of b c =
    if b == 58 && c == 58 then Some signs.ColonColon
    else (if b == 45 && c == 62 then Some signs.Arrow
    else (if b == 61 && c == 61 then Some signs.Equal
    else (if b == 62 && c == 61 then Some signs.GreaterEqual
    else (if b == 60 && c == 61 then Some signs.LessEqual
    else (if b == 33 && c == 61 then Some signs.NotEqual
    else (if b == 38 && c == 38 then Some signs.And
    else (if b == 124 && c == 124 then Some signs.Or
    else (if b == 43 && c == 43 then Some signs.Increment
    else (if b == 45 && c == 45 then Some signs.Decrement
    else (if b == 60 && c == 60 then Some signs.ShiftLeft
    else (if b == 62 && c == 62 then Some signs.ShiftRight
    else (if b == 43 && c == 61 then Some signs.PlusAssign
    else (if b == 45 && c == 61 then Some signs.MinusAssign
    else (if b == 42 && c == 61 then Some signs.StarAssign
    else (if b == 47 && c == 61 then Some signs.SlashAssign
    else (if b == 38 && c == 61 then Some signs.BitAndAssign
    else (if b == 124 && c == 61 then Some signs.BitOrAssign
    else (if b == 94 && c == 61 then Some signs.CaretAssign
    else (if b == 37 && c == 61 then Some signs.PercentAssign
    else None)))))))))))))))))))

abbrev pub single_of : ℕ → Option Sign
single_of b =
    if b == 40 then Some signs.OpenParen
    else (if b == 41 then Some signs.CloseParen
    else (if b == 123 then Some signs.OpenBrace
    else (if b == 125 then Some signs.CloseBrace
    else (if b == 91 then Some signs.OpenBracket
    else (if b == 93 then Some signs.CloseBracket
    else (if b == 59 then Some signs.Semicolon
    else (if b == 44 then Some signs.Comma
    else (if b == 46 then Some signs.Dot
    else (if b == 64 then Some signs.At
    else (if b == 61 then Some signs.Assign
    else (if b == 62 then Some signs.Greater
    else (if b == 60 then Some signs.Less
    else (if b == 33 then Some signs.Not
    else (if b == 126 then Some signs.Tilde
    else (if b == 63 then Some signs.Question
    else (if b == 58 then Some signs.Colon
    else (if b == 43 then Some signs.Plus
    else (if b == 45 then Some signs.Minus
    else (if b == 42 then Some signs.Star
    else (if b == 47 then Some signs.Slash
    else (if b == 38 then Some signs.BitAnd
    else (if b == 124 then Some signs.BitOr
    else (if b == 94 then Some signs.Caret
    else (if b == 37 then Some signs.Percent
    else None))))))))))))))))))))))))

abbrev pub sized : ℕ → Option Sign → Option (Sign × ℕ)
sized n None = None
sized n (Some sign) = Some (sign, n)

abbrev pub or_next : Option (Sign × ℕ) → Option (Sign × ℕ) → Option (Sign × ℕ)
or_next None next = next
or_next (Some found) next = Some found

abbrev pub up_to_two : ℕ → List ℕ → Option (Sign × ℕ)
up_to_two b [] = sized 1 (single_of b)
up_to_two b (c ∷ bs) = or_next (sized 2 (pair_of b c)) (sized 1 (single_of b))

abbrev pub up_to_three : ℕ → List ℕ → Option (Sign × ℕ)
up_to_three b [] = up_to_two b []
up_to_three b (c ∷ []) = up_to_two b (c ∷ [])
up_to_three b (c ∷ d ∷ bs) = or_next (sized 3 (three_of b c d)) (up_to_two b (c ∷ d ∷ bs))

-- the longest sign at the front, and how many bytes it has
abbrev pub sign_at : ℕ → List ℕ → Option (Sign × ℕ)
sign_at b [] = up_to_three b []
sign_at b (c ∷ []) = up_to_three b (c ∷ [])
sign_at b (c ∷ d ∷ []) = up_to_three b (c ∷ d ∷ [])
sign_at b (c ∷ d ∷ e ∷ bs) = or_next (sized 4 (four_of b c d e)) (up_to_three b (c ∷ d ∷ e ∷ bs))
