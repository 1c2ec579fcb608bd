use Rattle.kc_block_units.proofs.Leads.{leads_on}
use Rattle.kc_block_units.proofs.edges.edges_lead_on.Goals as goal

pub returns : goal.returns
returns g c = leads_on g.O.EdgeOut.led
