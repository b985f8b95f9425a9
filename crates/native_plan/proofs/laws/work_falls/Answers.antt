use Rattle.native_plan.proofs.Falls.{falls, less_of_all}
use Rattle.native_plan.proofs.laws.work_falls.Goals as goal

pub returns-clause-heard : goal.returns-clause-heard
returns-clause-heard c = λ before cut want place i m phase later errand told out few planned well no_end. falls before cut want place i m phase later errand told out few planned well no_end

pub returns-clause-all : goal.returns-clause-all
returns-clause-all c = λ f old new i all each here less. less_of_all f old new i all each here less
