-- What only the code's parts are held to; proofs/ shows that it comes to the definitions of specs/.
pub mod Parts
