use Rattle.ny_num.proofs.decimal.+push_whole.Given as goal

-- the digits grow fewer
abbrev pub decreases-push_whole : goal.decreases-push_whole
decreases-push_whole l = l.n
