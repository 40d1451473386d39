use Rattle.ny_hands.proofs.HandLemmas.{are_held, hand_more, hand_released}
use Rattle.ny_hands.proofs.BeforeLemmas.{as_before}
use Rattle.ny_hands.proofs.laws.hand_laws.Goals as goal

pub returns-clause-held : goal.returns-clause-held
returns-clause-held c = λ before h ss others hand. are_held before h ss others hand

pub returns-clause-as_before : goal.returns-clause-as_before
returns-clause-as_before c = λ old new laws hand v. as_before old new laws hand v

pub returns-clause-in_turn : goal.returns-clause-in_turn
returns-clause-in_turn c = λ old mid new ss others first second. hand_more old mid new ss others first second

pub returns-clause-released : goal.returns-clause-released
returns-clause-released c = λ old mid new a others laws hand step. hand_released old mid new a others laws hand step
