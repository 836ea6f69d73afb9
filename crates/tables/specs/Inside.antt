-- What only contracts inside the project name. Nobody has to read it who takes the class rule of Classes.antt: `mask_whole` (proofs/Masks.antt)
-- shows that a mask's width by leading zeros is its count of ones exactly if `none_missing`, and `mask_width` that the width is `count_of`.
pub mod Masks
