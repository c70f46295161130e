use Rattle.lab_reach.proofs.reach.+allowance.Given as goal

abbrev pub decreases-allowance : goal.decreases-allowance
decreases-allowance l = l.place
