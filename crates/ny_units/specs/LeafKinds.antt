-- What leaves are, without their numbers.
use Rattle.ny_units.specs.declared.leaves.Leaf.{Leaf}
use Rattle.ny_units.specs.declared.leaves.Leaf.TheVariants as leaf
use Rattle.ny_units.specs.declared.leaves.LeafKind.{LeafKind}
use Rattle.ny_units.specs.declared.leaves.LeafKind.TheVariants as kind

abbrev pub leaf_kind : Leaf → LeafKind
leaf_kind (leaf.Const value) = kind.Const
leaf_kind (leaf.Ramp len) = kind.Ramp
leaf_kind (leaf.Osc inc loud) = kind.Osc
leaf_kind (leaf.HzOsc inc loud) = kind.HzOsc
leaf_kind (leaf.Lfo inc) = kind.Lfo
leaf_kind (leaf.Noise x loud) = kind.Noise
leaf_kind (leaf.Pwl knots) = kind.Pwl
