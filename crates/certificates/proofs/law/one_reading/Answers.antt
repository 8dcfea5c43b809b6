-- What is owed of `one_reading`.
use Rattle.certificates.proofs.Unique.{one_certificate, one_name, one_list, one_key, one_aaguid, one_nonce, one_constraint, one_usage}
use Rattle.certificates.proofs.law.one_reading.Goals as goal

pub returns-clause-certificate : goal.returns-clause-certificate
returns-clause-certificate c = one_certificate

pub returns-clause-name : goal.returns-clause-name
returns-clause-name c = one_name

pub returns-clause-extensions : goal.returns-clause-extensions
returns-clause-extensions c = one_list

pub returns-clause-key : goal.returns-clause-key
returns-clause-key c = one_key

pub returns-clause-aaguid : goal.returns-clause-aaguid
returns-clause-aaguid c = one_aaguid

pub returns-clause-nonce : goal.returns-clause-nonce
returns-clause-nonce c = one_nonce

pub returns-clause-authority : goal.returns-clause-authority
returns-clause-authority c = one_constraint

pub returns-clause-usage : goal.returns-clause-usage
returns-clause-usage c = one_usage
