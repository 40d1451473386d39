use Rattle.std.proofs.Common.{refl}
use Rattle.ny_words.specs.Views.{render_view}
use Rattle.ny_top.proofs.FileLemmas.{plays_tree, of_tree, made_of_tree, cuts_of_tree, ends_on, told_on, in_middle}
use Rattle.ny_top.proofs.play.play.Goals as goal

pub returns-in-Ok-clause-whole : goal.returns-in-Ok-clause-whole
returns-in-Ok-clause-whole g c = λ whole.
    ends_on c.write_file-status.result (g.H.Host.state c.args.host.now) (g.H.Host.state c.write_file-status.new.host)
    (of_tree (render_view c.args.render) c.args.accepted.tree _ c.write_file-status.new.engine _ (plays_tree c.args.accepted.tree c.args.accepted.program _ c.requires.program c.in-Ok.ensures.piece) refl)
    (c.write_file-status.ensures.whole whole)

pub returns-in-Ok-clause-told : goal.returns-in-Ok-clause-told
returns-in-Ok-clause-told g c = λ is.
    in_middle
    (told_on (g.H.Host.state c.args.host.now) (g.H.Host.state c.write_file-status.new.host)
    (of_tree (render_view c.args.render) c.args.accepted.tree _ c.write_file-status.new.engine _ (plays_tree c.args.accepted.tree c.args.accepted.program _ c.requires.program c.in-Ok.ensures.piece) refl))
    (c.write_file-status.ensures.told is)

pub returns-in-Ok-clause-part : goal.returns-in-Ok-clause-part
returns-in-Ok-clause-part g c =
    made_of_tree (render_view c.args.render) c.args.accepted.tree _ (g.H.Host.state c.args.host.now) (g.H.Host.state c.write_file-status.new.host)
    (plays_tree c.args.accepted.tree c.args.accepted.program _ c.requires.program c.in-Ok.ensures.piece) c.write_file-status.ensures.part

pub returns-in-Ok-clause-cut : goal.returns-in-Ok-clause-cut
returns-in-Ok-clause-cut g c = λ is.
    cuts_of_tree (render_view c.args.render) c.args.accepted.tree _ c.write_file-status.new.engine _ (g.H.Host.state c.args.host.now) (g.H.Host.state c.write_file-status.new.host)
    (plays_tree c.args.accepted.tree c.args.accepted.program _ c.requires.program c.in-Ok.ensures.piece) refl (c.write_file-status.ensures.memory is)
