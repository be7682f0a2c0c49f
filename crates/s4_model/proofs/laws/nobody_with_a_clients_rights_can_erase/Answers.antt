use Rattle.s4_model.proofs.EraseLaws.{client_cannot_erase, clients_leave_the_past, clients_move_the_floor_by_the_window}
use Rattle.s4_model.proofs.laws.nobody_with_a_clients_rights_can_erase.Goals as goal

pub returns : goal.returns
returns c = record { visible = client_cannot_erase; past = clients_leave_the_past; floor = clients_move_the_floor_by_the_window }
