use Rattle.log_laws.proofs.SessionLevel.{session_level}
use Rattle.log_laws.proofs.state.acts_in_session_order.Goals as goal

pub returns : goal.returns
returns c = λ before m m' ins outs told t l. let s = session_level before m m' ins outs told l t in record { acts = s.acts; tracks = s.tracks }
