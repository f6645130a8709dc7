use Rattle.std.proofs.Common.{◌≡◌, ◌/◌, ◌%◌, ◌+◌, ◌*◌, ℕ, arith}
use Rattle.explicit_provisioning.proofs.laws.explicit_control_keeps_the_path.Goals as goal

pub returns-clause-path : goal.returns-clause-path
returns-clause-path c byte =
    let one : (byte / 2 * 2 + 1) / 16 % 16 ≡ byte / 16 % 16 = omega arith in
    let other : (byte / 2 * 2 + 1) / 2 % 8 ≡ byte / 2 % 8 = omega arith in
    (λ i. record { app_sel_code = one i; data_path_id = other i })

pub returns-clause-explicit : goal.returns-clause-explicit
returns-clause-explicit c byte = omega arith

pub returns-clause-more : goal.returns-clause-more
returns-clause-more c control = omega arith
