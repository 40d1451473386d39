-- What work keeps once it has moved on.
use Rattle.std.proofs.Common.{◌≡◌, ℕ, ◌≤◌, List, [], ◌∷◌, refl, sym, ap, subst}
use Rattle.ny_num.specs.declared.timing.Timing.{Timing}
use Rattle.ny_units.specs.Inputs.{reader_of}
use Rattle.ny_units.proofs.Reaching.{reaches_before}
use Rattle.ny_heap.specs.declared.work.Work.{Work}
use Rattle.ny_heap.specs.declared.work.Work.TheVariants.{Leaf as LeafWork, Pair as PairWork, Abs as AbsWork, Resample as ResampleWork, Filter as FilterWork, Mix as MixWork, Channel as ChannelWork}
use Rattle.ny_heap.specs.Work.{kind_of, inputs_in, source_at, cursor_at, MovesOn, HasGiven}
use Rattle.ny_heap.specs.Tasks.{HasSides, BeginsAt, BringsFrom, Hears}

pub same_kind : (w v : Work) (n : ℕ) → MovesOn w v n → kind_of v ≡ kind_of w
same_kind (LeafWork p) v n m = ap kind_of m
same_kind (PairWork p a b) v n m = ap kind_of m
same_kind (AbsWork s) v n m = ap kind_of m
same_kind (ResampleWork r) v n m = ap kind_of m.2
same_kind (FilterWork f start) v n m = ap kind_of m.1
same_kind (MixWork x) v n m = ap kind_of m
same_kind (ChannelWork p) v n m = ap kind_of m

pub same_inputs : (w v : Work) (n : ℕ) → MovesOn w v n → inputs_in v ≡ inputs_in w
same_inputs (LeafWork p) v n m = ap inputs_in m
same_inputs (PairWork p a b) v n m = ap inputs_in m
same_inputs (AbsWork s) v n m = ap inputs_in m
same_inputs (ResampleWork r) v n m = ap inputs_in m.2
same_inputs (FilterWork f start) v n m = ap inputs_in m.1
same_inputs (MixWork x) v n m = ap inputs_in m
same_inputs (ChannelWork p) v n m = ap inputs_in m

pub same_source : (w v : Work) (n i : ℕ) → MovesOn w v n → source_at v i ≡ source_at w i
same_source (LeafWork p) v n i m = ap (λ k. source_at k i) m
same_source (PairWork p a b) v n i m = ap (λ k. source_at k i) m
same_source (AbsWork s) v n i m = ap (λ k. source_at k i) m
same_source (ResampleWork r) v n i m = ap (λ k. source_at k i) m.2
same_source (FilterWork f start) v n i m = ap (λ k. source_at k i) m.1
same_source (MixWork x) v n i m = ap (λ k. source_at k i) m
same_source (ChannelWork p) v n i m = ap (λ k. source_at k i) m

pub same_reader : (w v : Work) (n i : ℕ) → MovesOn w v n → cursor_at v i ≡ cursor_at w i
same_reader w v n i m = ap reader_of (same_source w v n i m)

pub sides_on : (w v : Work) (n : ℕ) → MovesOn w v n → HasSides w → HasSides v
sides_on (LeafWork p) v n m h = subst HasSides (sym m) h
sides_on (PairWork p a b) v n m h = subst HasSides (sym m) h
sides_on (AbsWork s) v n m h = subst HasSides (sym m) h
sides_on (ResampleWork r) v n m h = subst HasSides (sym m.2) h
sides_on (FilterWork f start) v n m h = subst HasSides (sym m.1) h
sides_on (MixWork x) v n m h = subst HasSides (sym m) h
sides_on (ChannelWork p) v n m h = subst HasSides (sym m) h

pub begins_on : (w v : Work) (n : ℕ) (t : Timing) → MovesOn w v n → BeginsAt w t → BeginsAt v t
begins_on (LeafWork p) v n t m h = subst (λ k. BeginsAt k t) (sym m) h
begins_on (PairWork p a b) v n t m h = subst (λ k. BeginsAt k t) (sym m) h
begins_on (AbsWork s) v n t m h = subst (λ k. BeginsAt k t) (sym m) h
begins_on (ResampleWork r) v n t m h = subst (λ k. BeginsAt k t) (sym m.2) h
begins_on (FilterWork f start) v n t m h = subst (λ k. BeginsAt k t) (sym m.1) h
begins_on (MixWork x) v n t m h = subst (λ k. BeginsAt k t) (sym m) h
begins_on (ChannelWork p) v n t m h = subst (λ k. BeginsAt k t) (sym m) h

pub brings_on : (w v : Work) (n : ℕ) (ts : List Timing) → MovesOn w v n → BringsFrom w ts → BringsFrom v ts
brings_on (LeafWork p) v n ts m h = subst (λ k. BringsFrom k ts) (sym m) h
brings_on (PairWork p a b) v n ts m h = subst (λ k. BringsFrom k ts) (sym m) h
brings_on (AbsWork s) v n ts m h = subst (λ k. BringsFrom k ts) (sym m) h
brings_on (ResampleWork r) v n [] m h = absurd h
brings_on (ResampleWork r) v n (t ∷ ts) m h = subst (λ k. BringsFrom k (t ∷ ts)) (sym m.2) h
brings_on (FilterWork f start) v n ts m h = subst (λ k. BringsFrom k ts) (sym m.1) h
brings_on (MixWork x) v n ts m h = subst (λ k. BringsFrom k ts) (sym m) h
brings_on (ChannelWork p) v n ts m h = subst (λ k. BringsFrom k ts) (sym m) h

pub hears_on : (w v : Work) (n : ℕ) (t : Timing) (ts : List Timing) → MovesOn w v n → Hears w t ts → Hears v t ts
hears_on (LeafWork p) v n t ts m h = subst (λ k. Hears k t ts) (sym m) h
hears_on (PairWork p a b) v n t ts m h = subst (λ k. Hears k t ts) (sym m) h
hears_on (AbsWork s) v n t ts m h = subst (λ k. Hears k t ts) (sym m) h
hears_on (ResampleWork r) v n t ts m h = subst (λ k. Hears k t ts) (sym m.2) h
hears_on (FilterWork f start) v n t [] m h = absurd h
hears_on (FilterWork f start) v n t (s ∷ ss) m h = subst (λ k. Hears k t (s ∷ ss)) (sym m.1) h
hears_on (MixWork x) v n t ts m h = subst (λ k. Hears k t ts) (sym m) h
hears_on (ChannelWork p) v n t ts m h = subst (λ k. Hears k t ts) (sym m) h

-- it has given the samples before n then
pub given_on : (w v : Work) (len from n : ℕ) → MovesOn w v n → HasGiven w len from → HasGiven v len n
given_on (LeafWork p) v len from n m h = subst (λ k. HasGiven k len n) (sym m) (refl, h.1, h.2)
given_on (PairWork p a b) v len from n m h = subst (λ k. HasGiven k len n) (sym m) tt
given_on (AbsWork s) v len from n m h = subst (λ k. HasGiven k len n) (sym m) tt
given_on (ResampleWork r) v len from n m h = subst (λ k. HasGiven k len n) (sym m.2) refl
given_on (FilterWork f start) v len from n m h = subst (λ k. HasGiven k len n) (sym m.1) h
given_on (MixWork x) v len from n m h = subst (λ k. HasGiven k len n) (sym m) tt
given_on (ChannelWork p) v len from n m h = subst (λ k. HasGiven k len n) (sym m) tt

-- what has given some samples can be asked for no more than there are
pub given_before : (w : Work) (len end n : ℕ) → end ≤ len → HasGiven w len n → HasGiven w end n
given_before (LeafWork p) len end n less h = (h.0, h.1, reaches_before p.leaf end len less h.2)
given_before (PairWork p a b) len end n less h = tt
given_before (AbsWork s) len end n less h = tt
given_before (ResampleWork r) len end n less h = h
given_before (FilterWork f start) len end n less h = h
given_before (MixWork x) len end n less h = tt
given_before (ChannelWork p) len end n less h = tt
