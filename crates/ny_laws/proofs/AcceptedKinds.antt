-- What an accepted text plays is of a kind, and has as many channels as its program says.
use Rattle.std.proofs.Common.{◌≡◌, ℕ, suc, Bool, true, false, List, [], ◌∷◌, map, length, refl, sym, ap, ◌∙◌, subst, Option, Some, None, arith, inl, inr}
use Rattle.std.specs.Prelude.{if◌then◌else◌, max, min}
use Rattle.std.specs.List.{list_any}
use Rattle.ny_num.specs.declared.rate.Rate.{Rate}
use Rattle.ny_num.specs.Sound as sounds
use Rattle.ny_warp.specs.declared.env.Env.{Env}
use Rattle.ny_warp.specs.Environment.{opening}
use Rattle.ny_resolve.specs.declared.fault.Fault.{Fault}
use Rattle.ny_resolve.specs.declared.term.Part.{Part}
use Rattle.ny_resolve.specs.declared.term.Declared.{Declared}
use Rattle.ny_resolve.specs.Faults.{earliest, comes_before}
use Rattle.ny_resolve.specs.Declarations.{tree_read}
use Rattle.ny_kinds.specs.declared.kind.Kind.{Kind}
use Rattle.ny_kinds.specs.declared.kind.Kind.TheVariants.{Number, Sound, Test, Channels}
use Rattle.ny_kinds.specs.Whole.{is_playable, values_fault, play_kind, text_kind, channels_in}
use Rattle.ny_check.specs.Code.{Code, IsOrdered}
use Rattle.ny_check.specs.Channels.{played, channels, channel_at}
use Rattle.ny_check.specs.Writing.{program_of}
use Rattle.ny_check.specs.Acceptance.{fault_of, faults_in, judged_faults, kind_faults, program_in, program_with}
use Rattle.ny_check.specs.Texts.{IsAccepted}
use Rattle.ny_laws.specs.Standing.{IsTableOf}
use Rattle.ny_laws.specs.Kinds.{IsOf, IsPlayable}
use Rattle.ny_laws.proofs.Tables.{is_table}
use Rattle.ny_laws.proofs.Rows.{least_none}
use Rattle.ny_laws.proofs.ReadWhole.{none_left}
use Rattle.ny_laws.proofs.TextKinds.{TextWhole, play_is, bounded}
use Rattle.ny_laws.proofs.Scopes.{text_whole}
use Rattle.ny_laws.proofs.PlayedKinds.{kinds_hold}

pub none_earliest : (fs : List Fault) → earliest fs ≡ None → fs ≡ []
unfolding earliest
none_earliest [] is = refl
none_earliest (f ∷ fs) is = by (list_any (λ g. comes_before g f) fs) refl (λ rest. none_earliest fs rest) is
  where
    by : (b : Bool) → list_any (λ g. comes_before g f) fs ≡ b → (earliest fs ≡ None → fs ≡ []) → (if b then earliest fs else Some f) ≡ None → f ∷ fs ≡ []
    by true any rest e = let no : list_any (λ g. comes_before g f) [] ≡ true = subst (λ (gs : List Fault). list_any (λ g. comes_before g f) gs ≡ true) (rest e) any in cc
    by false any rest e = cc

no_kind_fault : (o : Option ℕ) → kind_faults o ≡ [] → o ≡ None
no_kind_fault None is = refl
no_kind_fault (Some at) is = cc

kind_told : (ds : List Declared) (o : Option Part) → (text_kind ds o).fault ≡ None → (values_fault ds 0 ds ≡ None) × ((play_kind ds o).fault ≡ None)
unfolding text_kind
kind_told ds o none = least_none (values_fault ds 0 ds) (play_kind ds o).fault none

kind_same : (ds : List Declared) (o : Option Part) → (text_kind ds o).kind ≡ (play_kind ds o).kind
unfolding text_kind
kind_same ds o = refl

channels_same : (ds : List Declared) (part : Part) (n : ℕ) → (program_of ds part n).channels ≡ n
unfolding program_of
channels_same ds part n = refl

some_code : (a b : Code) → Some a ≡ Some b → a ≡ b
some_code a b is = cc

-- what a program plays is of a kind, which says how many channels it has
pub record PlaysKind (code : Code) : Type 0 where
  pub kind : Kind
  pub is : IsOf code [] code.play.0 kind
  pub playable : is_playable kind ≡ true
  pub channels : code.channels ≡ channels_in (Some kind)

of_play : (code : Code) (ds : List Declared) (o : Option Part) → (text_kind ds o).fault ≡ None → ((part : Part) → o ≡ Some part → TextWhole ds part)
    → program_with ds o (channels_in (text_kind ds o).kind) ≡ Some code → PlaysKind code
of_play code ds None none whole is = cc
of_play code ds (Some part) none whole is =
    let n : ℕ = channels_in (text_kind ds (Some part)).kind in
    let same : program_of ds part n ≡ code = some_code (program_of ds part n) code is in
    let table : IsTableOf ds part code = subst (IsTableOf ds part) same (is_table ds part n) in
    let told = kind_told ds (Some part) none in
    let made = play_is code ds part table (whole part refl) told.0 told.1 in
    let count : code.channels ≡ n = ap (λ (c : Code). c.channels) (sym same) ∙ channels_same ds part n in
    record {
      kind = made.0;
      is = made.3;
      playable = made.2;
      channels = count ∙ ap channels_in (kind_same ds (Some part) ∙ made.1);
    }

pub plays_kind : (code : Code) → IsAccepted code → PlaysKind code
unfolding fault_of program_in
plays_kind code is =
    let t = tree_read is.tree in
    let none = none_earliest (faults_in t is.tree.play_at) is.accepted in
    let both = none_left t.faults (judged_faults t.declared t.play is.tree.play_at) none in
    let kind = none_left (kind_faults (text_kind t.declared t.play).fault) _ both.1 in
    of_play code t.declared t.play (no_kind_fault (text_kind t.declared t.play).fault kind.0) (λ part plays. text_whole is.tree part both.0 plays) is.program

pub playable : (code : Code) → PlaysKind code → IsPlayable code
playable code is = by is.kind is.is is.playable
  where
    by : (k : Kind) → IsOf code [] code.play.0 k → is_playable k ≡ true → IsPlayable code
    by Sound of p = inl of
    by (Channels n) of p = inr (n, of)
    by Number of p = cc
    by Test of p = cc

pub played_count : (code : Code) → IsOrdered code → PlaysKind code → (env : Env) → length (played code code.play.0 env []) ≡ code.channels
played_count code ordered is env = by is.kind is.is is.playable is.channels
  where
    by : (k : Kind) → IsOf code [] code.play.0 k → is_playable k ≡ true → code.channels ≡ channels_in (Some k) → length (played code code.play.0 env []) ≡ code.channels
    by Sound of p n = ap (λ (ss : List sounds.Sound). length ss) (kinds_hold code ordered [] code.play.0 Sound of env [] tt).1 ∙ sym n
    by (Channels m) of p n =
        let within = bounded code [] code.play.0 (Channels m) of m refl in
        let same : max 1 (min m 8) ≡ m = omega (arith, within.0, within.1) in
        kinds_hold code ordered [] code.play.0 (Channels m) of env [] tt ∙ sym same ∙ sym n
    by Number of p n = cc
    by Test of p n = cc

as_many : (f : sounds.Sound → sounds.Sound) (ss : List sounds.Sound) → length (map f ss) ≡ length ss
as_many f [] = refl
as_many f (s ∷ ss) = ap (λ (n : ℕ). suc n) (as_many f ss)

pub channel_count : (code : Code) → IsOrdered code → PlaysKind code → (rate : Rate) → length (channels code rate) ≡ code.channels
unfolding channels
channel_count code ordered is rate = as_many (channel_at rate) (played code code.play.0 (opening rate) []) ∙ played_count code ordered is (opening rate)
