-- The tokens of statements, and then the rest.
use Rattle.std.proofs.Common.{◌≡◌, ◌+◌, ◌<◌, ◌≤◌, Bool, true, false, length, List, [], ◌∷◌, Option, Some, None, refl}
use Rattle.std.proofs.Common.{ap, arith}
use Rattle.ls_lexer.specs.Lexemes.{Lexeme, Named, Reserved, Marked}
use Rattle.ls_lexer.specs.declared.sign.Sign.TheVariants as signs
use Rattle.ls_lexer.specs.declared.word.Word.TheVariants as words
use Rattle.ls_tree.specs.Trees.{Text, Expression, Simple, Statement, Block, Empty, If, IfElse, While, For, Break}
use Rattle.ls_tree.specs.Trees.{Continue, Return, Try, Perform, Synchronized, Assign, Add, Count, Evaluate, Opening}
use Rattle.ls_tree.specs.Trees.{Declares, Performs, Items, NoItem, Do, Declare, Piece, Doing, Declaring, collected}
use Rattle.ls_parser_expressions.proofs.Onto.{onto, onto_longer}
use Rattle.ls_parser_spelling.specs.Spelling.{count_sign}
use Rattle.ls_parser_expressions.proofs.Lists.{onto_all, onto_all_longer}
use Rattle.ls_parser_declarations.proofs.OntoDeclarations.{onto_declaration, declaration_longer}

-- the name that a jump goes to, spelled onto tokens
abbrev pub onto_label : Option Text → List Lexeme → List Lexeme
onto_label None rest = rest
onto_label (Some name) rest = Named name ∷ rest

-- the label of a statement, spelled onto tokens
abbrev pub onto_label_before : Option Text → List Lexeme → List Lexeme
onto_label_before None rest = rest
onto_label_before (Some name) rest = Named name ∷ Marked signs.Colon ∷ rest

-- the value of a return, spelled onto tokens
abbrev pub onto_value : Option Expression → List Lexeme → List Lexeme
onto_value None rest = rest
onto_value (Some value) rest = onto value rest

-- a condition in parentheses, spelled onto tokens
abbrev pub onto_condition : Expression → List Lexeme → List Lexeme
onto_condition condition rest = Marked signs.OpenParen ∷ onto condition (Marked signs.CloseParen ∷ rest)

-- a simple form, spelled onto tokens
abbrev pub onto_simple : Simple → List Lexeme → List Lexeme
onto_simple (Assign target value) rest = onto target (Marked signs.Assign ∷ onto value rest)
onto_simple (Add target value) rest = onto target (Marked signs.PlusAssign ∷ onto value rest)
onto_simple (Count up true target) rest = Marked (count_sign up) ∷ onto target rest
onto_simple (Count up false target) rest = onto target (Marked (count_sign up) ∷ rest)
onto_simple (Evaluate value) rest = onto value rest

-- a comma and a simple form, spelled onto tokens
abbrev pub onto_next_simple : Simple → List Lexeme → List Lexeme
onto_next_simple s rest = Marked signs.Comma ∷ onto_simple s rest

-- simple forms, spelled onto tokens
abbrev pub onto_simples : List Simple → List Lexeme → List Lexeme
onto_simples [] rest = rest
onto_simples (s ∷ ss) rest = onto_simple s (onto_all onto_next_simple ss rest)

-- the opening of a `for`, spelled onto tokens
abbrev pub onto_opening : Opening → List Lexeme → List Lexeme
onto_opening (Declares declaration) rest = onto_declaration declaration rest
onto_opening (Performs simples) rest = onto_simples simples (Marked signs.Semicolon ∷ rest)

-- the head of a `for`, spelled onto tokens
abbrev pub onto_head : Opening → Option Expression → List Simple → List Lexeme → List Lexeme
onto_head opening condition updates rest =
    Marked signs.OpenParen ∷
    onto_opening opening
    (onto_value condition (Marked signs.Semicolon ∷ onto_simples updates (Marked signs.CloseParen ∷ rest)))

abbrev mutual
  -- a statement, spelled onto tokens
  pub onto_statement : Statement → List Lexeme → List Lexeme
  onto_statement (Block items) rest = Marked signs.OpenBrace ∷ onto_items items (Marked signs.CloseBrace ∷ rest)
  onto_statement Empty rest = Marked signs.Semicolon ∷ rest
  onto_statement (If condition first) rest = Reserved words.If ∷ onto_condition condition (onto_statement first rest)
  onto_statement (IfElse condition first second) rest =
      Reserved words.If ∷
      onto_condition condition (onto_statement first (Reserved words.Else ∷ onto_statement second rest))
  onto_statement (While label condition body) rest =
      onto_label_before label (Reserved words.While ∷ onto_condition condition (onto_statement body rest))
  onto_statement (For label opening condition updates body) rest =
      onto_label_before label (Reserved words.For ∷ onto_head opening condition updates (onto_statement body rest))
  onto_statement (Break label) rest = Reserved words.Break ∷ onto_label label (Marked signs.Semicolon ∷ rest)
  onto_statement (Continue label) rest = Reserved words.Continue ∷ onto_label label (Marked signs.Semicolon ∷ rest)
  onto_statement (Return value) rest = Reserved words.Return ∷ onto_value value (Marked signs.Semicolon ∷ rest)
  onto_statement (Try body finally) rest =
      Reserved words.Try ∷ Marked signs.OpenBrace ∷
      onto_items body (Marked signs.CloseBrace ∷ Reserved words.Finally ∷ Marked signs.OpenBrace ∷
      onto_items finally (Marked signs.CloseBrace ∷ rest))
  onto_statement (Synchronized target body) rest =
      Reserved words.Synchronized ∷
      onto_condition target (Marked signs.OpenBrace ∷ onto_items body (Marked signs.CloseBrace ∷ rest))
  onto_statement (Perform simple) rest = onto_simple simple (Marked signs.Semicolon ∷ rest)

  -- the items of a block, spelled onto tokens
  pub onto_items : Items → List Lexeme → List Lexeme
  onto_items NoItem rest = rest
  onto_items (Do first others) rest = onto_statement first (onto_items others rest)
  onto_items (Declare first others) rest = onto_declaration first (onto_items others rest)

-- a block, spelled onto tokens
abbrev pub onto_block : Items → List Lexeme → List Lexeme
onto_block items rest = Marked signs.OpenBrace ∷ onto_items items (Marked signs.CloseBrace ∷ rest)

-- one item of a block, spelled onto tokens
abbrev pub onto_piece : Piece → List Lexeme → List Lexeme
onto_piece (Doing statement) rest = onto_statement statement rest
onto_piece (Declaring declaration) rest = onto_declaration declaration rest

-- collected items are spelled one after the other
pub onto_collected : (ps : List Piece) (rest : List Lexeme) →
    onto_items (collected ps) rest ≡ onto_all onto_piece ps rest
onto_collected [] rest = refl
onto_collected (Doing a ∷ ps) rest = ap (onto_statement a) (onto_collected ps rest)
onto_collected (Declaring d ∷ ps) rest = ap (onto_declaration d) (onto_collected ps rest)

-- ---- lengths

label_longer : (label : Option Text) (rest : List Lexeme) → length rest ≤ length (onto_label label rest)
label_longer None rest = omega arith
label_longer (Some name) rest = omega arith

label_before_longer : (label : Option Text) (rest : List Lexeme) → length rest ≤ length (onto_label_before label rest)
label_before_longer None rest = omega arith
label_before_longer (Some name) rest = omega arith

value_longer : (value : Option Expression) (rest : List Lexeme) → length rest ≤ length (onto_value value rest)
value_longer None rest = omega arith
value_longer (Some value) rest = omega (arith, onto_longer value rest)

-- a simple form has a token
pub simple_longer : (s : Simple) (rest : List Lexeme) → length rest < length (onto_simple s rest)
simple_longer (Assign target value) rest =
    omega (arith, onto_longer target (Marked signs.Assign ∷ onto value rest), onto_longer value rest)
simple_longer (Add target value) rest =
    omega (arith, onto_longer target (Marked signs.PlusAssign ∷ onto value rest), onto_longer value rest)
simple_longer (Count up true target) rest = omega (arith, onto_longer target rest)
simple_longer (Count up false target) rest = omega (arith, onto_longer target (Marked (count_sign up) ∷ rest))
simple_longer (Evaluate value) rest = onto_longer value rest

-- so has a simple form after a comma
pub next_simple_longer : (s : Simple) (rest : List Lexeme) → length rest < length (onto_next_simple s rest)
next_simple_longer s rest = omega (arith, simple_longer s rest)

simples_longer : (ss : List Simple) (rest : List Lexeme) → length rest ≤ length (onto_simples ss rest)
simples_longer [] rest = omega arith
simples_longer (s ∷ ss) rest =
    omega (
      arith,
      simple_longer s (onto_all onto_next_simple ss rest),
      onto_all_longer onto_next_simple next_simple_longer ss rest,
    )

opening_longer : (o : Opening) (rest : List Lexeme) → length rest ≤ length (onto_opening o rest)
opening_longer (Declares d) rest = omega (arith, declaration_longer d rest)
opening_longer (Performs ss) rest = omega (arith, simples_longer ss (Marked signs.Semicolon ∷ rest))

head_longer : (o : Opening) (c : Option Expression) (us : List Simple) (rest : List Lexeme) →
    length rest ≤ length (onto_head o c us rest)
head_longer o c us rest =
    omega (
      arith,
      opening_longer o (onto_value c (Marked signs.Semicolon ∷ onto_simples us (Marked signs.CloseParen ∷ rest))),
      value_longer c (Marked signs.Semicolon ∷ onto_simples us (Marked signs.CloseParen ∷ rest)),
      simples_longer us (Marked signs.CloseParen ∷ rest),
    )

mutual
  pub statement_longer : (t : Statement) (rest : List Lexeme) → length rest < length (onto_statement t rest)
  statement_longer (Block items) rest = omega (arith, items_longer items (Marked signs.CloseBrace ∷ rest))
  statement_longer Empty rest = omega arith
  statement_longer (If condition first) rest =
      omega (
        arith,
        onto_longer condition (Marked signs.CloseParen ∷ onto_statement first rest),
        statement_longer first rest,
      )
  statement_longer (IfElse condition first second) rest =
      omega (
        arith,
        onto_longer condition (Marked signs.CloseParen ∷
            onto_statement first (Reserved words.Else ∷ onto_statement second rest)),
        statement_longer first (Reserved words.Else ∷ onto_statement second rest),
        statement_longer second rest,
      )
  statement_longer (While label condition body) rest =
      omega (
        arith,
        label_before_longer label (Reserved words.While ∷ onto_condition condition (onto_statement body rest)),
        onto_longer condition (Marked signs.CloseParen ∷ onto_statement body rest),
        statement_longer body rest,
      )
  statement_longer (For label opening condition updates body) rest =
      omega (
        arith,
        label_before_longer label
            (Reserved words.For ∷ onto_head opening condition updates (onto_statement body rest)),
        head_longer opening condition updates (onto_statement body rest),
        statement_longer body rest,
      )
  statement_longer (Break label) rest = omega (arith, label_longer label (Marked signs.Semicolon ∷ rest))
  statement_longer (Continue label) rest = omega (arith, label_longer label (Marked signs.Semicolon ∷ rest))
  statement_longer (Return value) rest = omega (arith, value_longer value (Marked signs.Semicolon ∷ rest))
  statement_longer (Try body finally) rest =
      omega (
        arith,
        items_longer body (Marked signs.CloseBrace ∷ Reserved words.Finally ∷ Marked signs.OpenBrace ∷
            onto_items finally (Marked signs.CloseBrace ∷ rest)),
        items_longer finally (Marked signs.CloseBrace ∷ rest),
      )
  statement_longer (Synchronized target body) rest =
      omega (
        arith,
        onto_longer target (Marked signs.CloseParen ∷ Marked signs.OpenBrace ∷
            onto_items body (Marked signs.CloseBrace ∷ rest)),
        items_longer body (Marked signs.CloseBrace ∷ rest),
      )
  statement_longer (Perform simple) rest = omega (arith, simple_longer simple (Marked signs.Semicolon ∷ rest))

  -- items take no tokens away
  pub items_longer : (ts : Items) (rest : List Lexeme) → length rest ≤ length (onto_items ts rest)
  items_longer NoItem rest = omega arith
  items_longer (Do first others) rest =
      omega (arith, statement_longer first (onto_items others rest), items_longer others rest)
  items_longer (Declare first others) rest =
      omega (arith, declaration_longer first (onto_items others rest), items_longer others rest)

-- an item has a token
pub piece_longer : (p : Piece) (rest : List Lexeme) → length rest < length (onto_piece p rest)
piece_longer (Doing statement) rest = statement_longer statement rest
piece_longer (Declaring declaration) rest = declaration_longer declaration rest
