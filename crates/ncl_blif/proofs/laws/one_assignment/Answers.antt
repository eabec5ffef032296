use Rattle.ncl_blif.proofs.Fitting as fitting
use Rattle.ncl_blif.proofs.laws.one_assignment.Goals as goal

pub returns-clause-some : goal.returns-clause-some
returns-clause-some c = λ model word is long. fitting.some_fits model is word long

pub returns-clause-same : goal.returns-clause-same
returns-clause-same c = λ model word a b is fa fb. fitting.fits_agree model is word a b fa fb
