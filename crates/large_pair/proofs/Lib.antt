mod Ends
