-- A whole text is written with no more brackets, and no higher.
use Rattle.std.proofs.Common.{◌≡◌, ℕ, ◌≤◌, max, List, [], ◌∷◌, ◌++◌, map, refl, Bool, true, false, arith}
use Rattle.ny_syntax.specs.declared.token.Mark.TheVariants as marks
use Rattle.ny_syntax.specs.declared.token.Word.TheVariants as words
use Rattle.ny_syntax.specs.declared.tree.Param.{Param}
use Rattle.ny_syntax.specs.Grammar.{Body, returned, block_body, Declaration, function, variable, Play, silent, plays, tokens, param_tokens, body_tokens, declaration_tokens, declarations_tokens, play_tokens, body_height, declaration_height, declarations_height, play_height, IsBody, IsDeclaration, AreDeclarations, IsPlay, params_of, body_of, declaration_of, declarations_of, played_of}
use Rattle.ny_syntax.specs.Spelled.{Lexeme, sign, reserved}
use Rattle.ny_syntax.specs.Canonical.{written, separated_params, param_lexemes, declaration_lexemes, play_lines, line_tokens, written_height, written_heights, played_height, opens, opens_written}
use Rattle.ny_syntax.proofs.CanonicalParse.{rewritten}
use Rattle.ny_syntax.proofs.Fewest.{anywhere, fewest, opened, opens-append, opens_written-append}

params-closed : (some : Bool) (ps : List Param) → opens_written (separated_params some ps) ≡ 0
params-closed some [] = refl
params-closed true (p ∷ ps) = omega (arith, params-closed true ps)
params-closed false (p ∷ ps) = omega (arith, params-closed true ps)

-- what is written has no more brackets, and is no higher
pub record IsNoMore (brackets brackets_before high high_before : ℕ) : Type 0 where
  pub few : brackets ≤ brackets_before
  pub low : high ≤ high_before

body-fewest : (text : List ℕ) (body : Body) → IsBody body
    → IsNoMore (opens_written (written (body_of text body)).lexemes) (opens (body_tokens body)) (written (body_of text body)).height (body_height body)
body-fewest text (returned r p) (kind, is) =
    let q = anywhere (rewritten text p) p is (fewest text p is) in
    let few : opens_written (rewritten text p).lexemes ≤ opens (tokens p) = q.few in
    record { few = omega (arith, few); low = q.low }
body-fewest text (block_body p) (block, is) = let q = anywhere (rewritten text p) p is (fewest text p is) in record { few = q.few; low = q.low }

declaration-fewest : (text : List ℕ) (d : Declaration) → IsDeclaration d
    → IsNoMore (opens_written (declaration_lexemes (declaration_of text d))) (opens (declaration_tokens d)) (written_height (declaration_of text d)) (declaration_height d)
declaration-fewest text (function d f n o ps c body) (is_d, is_f, is_n, is_o, are_ps, is_c, is_body) =
    let q = body-fewest text body is_body in
    let few : opens_written (written (body_of text body)).lexemes ≤ opens (body_tokens body) = q.few in
    record {
      few = omega (
        arith,
        opened o.kind is_o,
        opens_written-append (param_lexemes (params_of text ps)) (sign marks.Close ∷ reserved words.Return ∷ (written (body_of text body)).lexemes),
        params-closed false (params_of text ps),
        opens-append (param_tokens ps) (c ∷ body_tokens body),
        few,
      );
      low = q.low;
    }
declaration-fewest text (variable d v n is p) (is_d, is_v, is_n, is_is, isp) =
    let q = anywhere (rewritten text p) p isp (fewest text p isp) in
    let few : opens_written (rewritten text p).lexemes ≤ opens (tokens p) = q.few in
    record { few = omega (arith, few); low = q.low }

play-fewest : (text : List ℕ) (play : Play) → IsPlay play
    → IsNoMore (opens_written (line_tokens (play_lines (played_of text play)))) (opens (play_tokens play)) (played_height (played_of text play)) (play_height play)
play-fewest text silent is = record { few = omega arith; low = omega arith }
play-fewest text (plays t p) (kind, is) =
    let q = anywhere (rewritten text p) p is (fewest text p is) in
    let few : opens_written (rewritten text p).lexemes ≤ opens (tokens p) = q.few in
    record { few = omega (arith, opens_written-append (rewritten text p).lexemes [], few); low = q.low }

pub program-fewest : (text : List ℕ) (ds : List Declaration) (play : Play) → AreDeclarations ds → IsPlay play
    → IsNoMore (opens_written (line_tokens (map declaration_lexemes (declarations_of text ds) ++ play_lines (played_of text play))))
    (opens (declarations_tokens ds ++ play_tokens play))
    (max (written_heights (declarations_of text ds)) (played_height (played_of text play))) (max (declarations_height ds) (play_height play))
program-fewest text [] play are is =
    let q = play-fewest text play is in
    let low : played_height (played_of text play) ≤ play_height play = q.low in
    record { few = q.few; low = omega (arith, low) }
program-fewest text (d ∷ ds) play (is_d, are) is =
    let p = declaration-fewest text d is_d in
    let q = program-fewest text ds play are is in
    let rest : List Lexeme = line_tokens (map declaration_lexemes (declarations_of text ds) ++ play_lines (played_of text play)) in
    let few_d : opens_written (declaration_lexemes (declaration_of text d)) ≤ opens (declaration_tokens d) = p.few in
    let few : opens_written rest ≤ opens (declarations_tokens ds ++ play_tokens play) = q.few in
    let low_d : written_height (declaration_of text d) ≤ declaration_height d = p.low in
    let low : max (written_heights (declarations_of text ds)) (played_height (played_of text play)) ≤ max (declarations_height ds) (play_height play) = q.low in
    record {
      few = omega (
        arith,
        opens_written-append (declaration_lexemes (declaration_of text d)) rest,
        opens-append (declaration_tokens d ++ declarations_tokens ds) (play_tokens play),
        opens-append (declaration_tokens d) (declarations_tokens ds),
        opens-append (declarations_tokens ds) (play_tokens play),
        few_d,
        few,
      );
      low = omega (arith, low_d, low);
    }
