-- Which tokens make which tree. A parse tree holds each of its tokens; what its tokens are, how high it is, whether it obeys
-- the grammar, and which tree it stands for are functions of it.
--
--   program = { decl } [ "play" expr ]
--   decl    = "define" "function" NAME "(" [ NAME { "," NAME } ] ")" body
--           | "define" "variable" NAME "=" expr
--   body    = "return" expr | block
--   block   = "begin" [ "with" bind { "," bind } ] "return" expr "end"
--   bind    = NAME "=" expr
--   expr    = expr OPERATOR expr           by the levels of specs/Levels.antt
--           | expr "/" NUMBER
--           | "-" expr | "!" expr          of level 7 or more
--           | NUMBER | NAME | NAME "(" [ expr { "," expr } ] ")"
--           | "#if" "(" expr "," expr "," expr ")" | block | "(" expr ")"
--
-- Repeated operators group to the left. A pair of brackets leaves no node in the tree. A body that is a block is the block's
-- expression.
use Rattle.std.specs.Prelude.{◌≡◌, ℕ, ◌+◌, ◌≤◌, max, List, [], ◌∷◌, ◌++◌, map, length, ℤ, Option, Some, None, true, slice_range}
use Rattle.std.specs.Char.{to_ascii_lowercase}
use Rattle.ny_syntax.specs.declared.token.Token.{Token}
use Rattle.ny_syntax.specs.declared.token.TokenKind.{TokenKind}
use Rattle.ny_syntax.specs.declared.token.TokenKind.TheVariants as kinds
use Rattle.ny_syntax.specs.declared.token.Mark.TheVariants as marks
use Rattle.ny_syntax.specs.declared.token.Word.TheVariants as words
use Rattle.ny_syntax.specs.declared.tree.Name.{Name}
use Rattle.ny_syntax.specs.declared.tree.Expr.{Expr}
use Rattle.ny_syntax.specs.declared.tree.Bind.{Bind}
use Rattle.ny_syntax.specs.declared.tree.Form.{Form}
use Rattle.ny_syntax.specs.declared.tree.Form.TheVariants as forms
use Rattle.ny_syntax.specs.declared.tree.Param.{Param}
use Rattle.ny_syntax.specs.declared.tree.Decl.{Decl}
use Rattle.ny_syntax.specs.declared.tree.Decl.TheVariants as decls
use Rattle.ny_syntax.specs.declared.tree.Tree.{Tree}
use Rattle.ny_syntax.specs.Levels.{level_of, prefix_level, operand_level, left_least, right_least, operator_of, is_prefix, prefix_of}

-- an expression, with its tokens in their places
mutual
  pub data Parse : Type 0 where
    -- NUMBER, with its value
    number : Token → ℤ → Parse
    -- NAME
    name : Token → Parse
    -- ( expr )
    grouped : Token → Parse → Token → Parse
    -- - expr, ! expr
    prefixed : Token → Parse → Parse
    -- expr OPERATOR expr
    binary : Parse → Token → Parse → Parse
    -- NAME ( )
    bare_call : Token → Token → Token → Parse
    -- NAME ( arguments )
    call : Token → Token → Arguments → Token → Parse
    -- #if ( expr , expr , expr )
    conditional : Token → Token → Parse → Token → Parse → Token → Parse → Token → Parse
    -- begin return expr end
    bare_block : Token → Token → Parse → Token → Parse
    -- begin with bindings return expr end
    block : Token → Token → Bindings → Token → Parse → Token → Parse

  -- expr { , expr }
  pub data Arguments : Type 0 where
    argument : Parse → Arguments
    arguments : Parse → Token → Arguments → Arguments

  -- NAME = expr { , NAME = expr }
  pub data Bindings : Type 0 where
    binding : Token → Token → Parse → Bindings
    bindings : Token → Token → Parse → Token → Bindings → Bindings

-- NAME { , NAME }: the first, and each of the others after its comma; or none
pub data Params : Type 0 where
  no_params : Params
  params : Token → List (Token × Token) → Params

-- return expr, or a block
pub data Body : Type 0 where
  returned : Token → Parse → Body
  block_body : Parse → Body

pub data Declaration : Type 0 where
  -- define function NAME ( params ) body
  function : Token → Token → Token → Token → Params → Token → Body → Declaration
  -- define variable NAME = expr
  variable : Token → Token → Token → Token → Parse → Declaration

-- play expr, or nothing
pub data Play : Type 0 where
  silent : Play
  plays : Token → Parse → Play

pub data Program : Type 0 where
  program : List Declaration → Play → Program

-- the tokens in order
abbrev mutual
  pub tokens : Parse → List Token
  tokens (number t v) = t ∷ []
  tokens (name t) = t ∷ []
  tokens (grouped o p c) = o ∷ tokens p ++ c ∷ []
  tokens (prefixed m p) = m ∷ tokens p
  tokens (binary a op b) = tokens a ++ op ∷ tokens b
  tokens (bare_call t o c) = t ∷ o ∷ c ∷ []
  tokens (call t o es c) = t ∷ o ∷ argument_tokens es ++ c ∷ []
  tokens (conditional i o p c q d r e) = i ∷ o ∷ tokens p ++ c ∷ tokens q ++ d ∷ tokens r ++ e ∷ []
  tokens (bare_block b r p e) = b ∷ r ∷ tokens p ++ e ∷ []
  tokens (block b w bs r p e) = b ∷ w ∷ binding_tokens bs ++ r ∷ tokens p ++ e ∷ []

  pub argument_tokens : Arguments → List Token
  argument_tokens (argument p) = tokens p
  argument_tokens (arguments p comma es) = tokens p ++ comma ∷ argument_tokens es

  pub binding_tokens : Bindings → List Token
  binding_tokens (binding n is p) = n ∷ is ∷ tokens p
  binding_tokens (bindings n is p comma bs) = n ∷ is ∷ tokens p ++ comma ∷ binding_tokens bs

abbrev pub more_param_tokens : List (Token × Token) → List Token
more_param_tokens [] = []
more_param_tokens (more ∷ mores) = more.0 ∷ more.1 ∷ more_param_tokens mores

abbrev pub param_tokens : Params → List Token
param_tokens no_params = []
param_tokens (params first mores) = first ∷ more_param_tokens mores

abbrev pub body_tokens : Body → List Token
body_tokens (returned r p) = r ∷ tokens p
body_tokens (block_body p) = tokens p

abbrev pub declaration_tokens : Declaration → List Token
declaration_tokens (function d f n o ps c body) = d ∷ f ∷ n ∷ o ∷ param_tokens ps ++ c ∷ body_tokens body
declaration_tokens (variable d v n is p) = d ∷ v ∷ n ∷ is ∷ tokens p

abbrev pub declarations_tokens : List Declaration → List Token
declarations_tokens [] = []
declarations_tokens (d ∷ ds) = declaration_tokens d ++ declarations_tokens ds

abbrev pub play_tokens : Play → List Token
play_tokens silent = []
play_tokens (plays t p) = t ∷ tokens p

abbrev pub program_tokens : Program → List Token
program_tokens (program ds play) = declarations_tokens ds ++ play_tokens play

-- The height of an expression in a text: a number or name has 1, a call 1 more than its highest argument and at least 2, all
-- else 1 more than its highest expression; a pair of grouping brackets adds 1.
abbrev mutual
  pub height : Parse → ℕ
  height (number t v) = 1
  height (name t) = 1
  height (grouped o p c) = 1 + height p
  height (prefixed m p) = 1 + height p
  height (binary a op b) = 1 + max (height a) (height b)
  height (bare_call t o c) = 2
  height (call t o es c) = max 2 (1 + highest_argument es)
  height (conditional i o p c q d r e) = 1 + max (height p) (max (height q) (height r))
  height (bare_block b r p e) = 1 + height p
  height (block b w bs r p e) = 1 + max (highest_binding bs) (height p)

  pub highest_argument : Arguments → ℕ
  highest_argument (argument p) = height p
  highest_argument (arguments p comma es) = max (height p) (highest_argument es)

  pub highest_binding : Bindings → ℕ
  highest_binding (binding n is p) = height p
  highest_binding (bindings n is p comma bs) = max (height p) (highest_binding bs)

abbrev pub body_height : Body → ℕ
body_height (returned r p) = height p
body_height (block_body p) = height p

abbrev pub declaration_height : Declaration → ℕ
declaration_height (function d f n o ps c body) = body_height body
declaration_height (variable d v n is p) = height p

abbrev pub declarations_height : List Declaration → ℕ
declarations_height [] = 0
declarations_height (d ∷ ds) = max (declaration_height d) (declarations_height ds)

abbrev pub play_height : Play → ℕ
play_height silent = 0
play_height (plays t p) = height p

-- the height of the highest expression of a program
abbrev pub program_height : Program → ℕ
program_height (program ds play) = max (declarations_height ds) (play_height play)

-- no expression of a text is higher
abbrev pub height_limit : ℕ
height_limit = 200

-- how tightly the outermost part of an expression binds
abbrev pub level : Parse → ℕ
level (binary a op b) = level_of op.kind
level (prefixed m p) = prefix_level
level _ = operand_level

abbrev pub IsNumber : Parse → Type 0
IsNumber (number t v) = Unit {0}
IsNumber _ = ⊥

abbrev pub IsBlock : Parse → Type 0
IsBlock (bare_block b r p e) = Unit {0}
IsBlock (block b w bs r p e) = Unit {0}
IsBlock _ = ⊥

-- what may stand to the right of an operator: a number after `/`, and else what binds tighter
abbrev pub IsRight : TokenKind → Parse → Type 0
IsRight (kinds.Sign marks.Over) p = IsNumber p
IsRight kind p = right_least kind ≤ level p

-- the grammar
abbrev mutual
  pub IsParse : Parse → Type 0
  IsParse (number t v) = t.kind ≡ kinds.Number v
  IsParse (name t) = t.kind ≡ kinds.Name
  IsParse (grouped o p c) = (o.kind ≡ kinds.Sign marks.Open) × IsParse p × (c.kind ≡ kinds.Sign marks.Close)
  IsParse (prefixed m p) = (is_prefix m.kind ≡ true) × IsParse p × (prefix_level ≤ level p)
  IsParse (binary a op b) = (1 ≤ level_of op.kind) × IsParse a × (left_least op.kind ≤ level a) × IsParse b × IsRight op.kind b
  IsParse (bare_call t o c) = (t.kind ≡ kinds.Name) × (o.kind ≡ kinds.Sign marks.Open) × (c.kind ≡ kinds.Sign marks.Close)
  IsParse (call t o es c) = (t.kind ≡ kinds.Name) × (o.kind ≡ kinds.Sign marks.Open) × AreArguments es × (c.kind ≡ kinds.Sign marks.Close)
  IsParse (conditional i o p c q d r e) =
      (i.kind ≡ kinds.If) × (o.kind ≡ kinds.Sign marks.Open) × IsParse p × (c.kind ≡ kinds.Sign marks.Comma)
      × IsParse q × (d.kind ≡ kinds.Sign marks.Comma) × IsParse r × (e.kind ≡ kinds.Sign marks.Close)
  IsParse (bare_block b r p e) =
      (b.kind ≡ kinds.Reserved words.Begin) × (r.kind ≡ kinds.Reserved words.Return) × IsParse p × (e.kind ≡ kinds.Reserved words.End)
  IsParse (block b w bs r p e) =
      (b.kind ≡ kinds.Reserved words.Begin) × (w.kind ≡ kinds.Reserved words.With) × AreBindings bs
      × (r.kind ≡ kinds.Reserved words.Return) × IsParse p × (e.kind ≡ kinds.Reserved words.End)

  pub AreArguments : Arguments → Type 0
  AreArguments (argument p) = IsParse p
  AreArguments (arguments p comma es) = IsParse p × (comma.kind ≡ kinds.Sign marks.Comma) × AreArguments es

  pub AreBindings : Bindings → Type 0
  AreBindings (binding n is p) = (n.kind ≡ kinds.Name) × (is.kind ≡ kinds.Sign marks.Equal) × IsParse p
  AreBindings (bindings n is p comma bs) =
      (n.kind ≡ kinds.Name) × (is.kind ≡ kinds.Sign marks.Equal) × IsParse p × (comma.kind ≡ kinds.Sign marks.Comma) × AreBindings bs

abbrev pub AreMoreParams : List (Token × Token) → Type 0
AreMoreParams [] = Unit {0}
AreMoreParams (more ∷ mores) = (more.0.kind ≡ kinds.Sign marks.Comma) × (more.1.kind ≡ kinds.Name) × AreMoreParams mores

abbrev pub AreParams : Params → Type 0
AreParams no_params = Unit {0}
AreParams (params first mores) = (first.kind ≡ kinds.Name) × AreMoreParams mores

abbrev pub IsBody : Body → Type 0
IsBody (returned r p) = (r.kind ≡ kinds.Reserved words.Return) × IsParse p
IsBody (block_body p) = IsBlock p × IsParse p

abbrev pub IsDeclaration : Declaration → Type 0
IsDeclaration (function d f n o ps c body) =
    (d.kind ≡ kinds.Reserved words.Define) × (f.kind ≡ kinds.Reserved words.Function) × (n.kind ≡ kinds.Name)
    × (o.kind ≡ kinds.Sign marks.Open) × AreParams ps × (c.kind ≡ kinds.Sign marks.Close) × IsBody body
IsDeclaration (variable d v n is p) =
    (d.kind ≡ kinds.Reserved words.Define) × (v.kind ≡ kinds.Reserved words.Variable) × (n.kind ≡ kinds.Name)
    × (is.kind ≡ kinds.Sign marks.Equal) × IsParse p

abbrev pub AreDeclarations : List Declaration → Type 0
AreDeclarations [] = Unit {0}
AreDeclarations (d ∷ ds) = IsDeclaration d × AreDeclarations ds

abbrev pub IsPlay : Play → Type 0
IsPlay silent = Unit {0}
IsPlay (plays t p) = (t.kind ≡ kinds.Reserved words.Play) × IsParse p

abbrev pub IsProgram : Program → Type 0
IsProgram (program ds play) = AreDeclarations ds × IsPlay play

-- a name's bytes are those of the text, in lower case
abbrev pub name_of : List ℕ → Token → Name
name_of text t = record { bytes = map to_ascii_lowercase (slice_range text t.from t.to) }

abbrev pub expr : ℕ → Form → Expr
expr at form = record { at = at; form = form }

abbrev pub bind_of : List ℕ → Token → Expr → Bind
bind_of text t value = record { at = t.from; name = name_of text t; value = value }

abbrev pub param_of : List ℕ → Token → Param
param_of text t = record { at = t.from; name = name_of text t }

-- The tree that a parse tree stands for, where the tokens are those of this text.
abbrev mutual
  pub tree_of : List ℕ → Parse → Expr
  tree_of text (number t v) = expr t.from (forms.Number v)
  tree_of text (name t) = expr t.from (forms.Name (name_of text t))
  tree_of text (grouped o p c) = tree_of text p
  tree_of text (prefixed m p) = expr m.from (forms.Prefix (prefix_of m.kind) (tree_of text p))
  tree_of text (binary a op b) = expr op.from (forms.Binary (operator_of op.kind) (tree_of text a) (tree_of text b))
  tree_of text (bare_call t o c) = expr t.from (forms.Call (name_of text t) [])
  tree_of text (call t o es c) = expr t.from (forms.Call (name_of text t) (trees_of text es))
  tree_of text (conditional i o p c q d r e) = expr i.from (forms.If (tree_of text p) (tree_of text q) (tree_of text r))
  tree_of text (bare_block b r p e) = expr b.from (forms.Block [] (tree_of text p))
  tree_of text (block b w bs r p e) = expr b.from (forms.Block (binds_of text bs) (tree_of text p))

  pub trees_of : List ℕ → Arguments → List Expr
  trees_of text (argument p) = tree_of text p ∷ []
  trees_of text (arguments p comma es) = tree_of text p ∷ trees_of text es

  pub binds_of : List ℕ → Bindings → List Bind
  binds_of text (binding n is p) = bind_of text n (tree_of text p) ∷ []
  binds_of text (bindings n is p comma bs) = bind_of text n (tree_of text p) ∷ binds_of text bs

abbrev pub more_params_of : List ℕ → List (Token × Token) → List Param
more_params_of text [] = []
more_params_of text (more ∷ mores) = param_of text more.1 ∷ more_params_of text mores

abbrev pub params_of : List ℕ → Params → List Param
params_of text no_params = []
params_of text (params first mores) = param_of text first ∷ more_params_of text mores

abbrev pub body_of : List ℕ → Body → Expr
body_of text (returned r p) = tree_of text p
body_of text (block_body p) = tree_of text p

abbrev pub declaration_of : List ℕ → Declaration → Decl
declaration_of text (function d f n o ps c body) = decls.Function n.from (name_of text n) (params_of text ps) (body_of text body)
declaration_of text (variable d v n is p) = decls.Variable n.from (name_of text n) (tree_of text p)

abbrev pub declarations_of : List ℕ → List Declaration → List Decl
declarations_of text [] = []
declarations_of text (d ∷ ds) = declaration_of text d ∷ declarations_of text ds

-- what is played, and the place of `play`, which is the text's length where there is none
abbrev pub played_of : List ℕ → Play → Option Expr
played_of text silent = None
played_of text (plays t p) = Some (tree_of text p)

abbrev pub play_place : List ℕ → Play → ℕ
play_place text silent = length text
play_place text (plays t p) = t.from

abbrev pub program_of : List ℕ → Program → Tree
program_of text (program ds play) =
    record { decls = declarations_of text ds; play = played_of text play; play_at = play_place text play; end = length text }

-- The tokens of this text have this tree: some program by the grammar has these tokens and this tree, and no expression of it
-- is higher than 200.
abbrev pub HasTree : List ℕ → List Token → Tree → Type 0
HasTree text ts tree =
    (p : Program) × IsProgram p × (program_height p ≤ height_limit) × (program_tokens p ≡ ts) × (program_of text p ≡ tree)
