mod AsNumbers
